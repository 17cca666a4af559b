use Rattle.std.proofs.Common.{◌≡◌, map, take}
use Rattle.scc_states_cut.proofs.body.counts_of.Given as goal

abbrev pub invariant-loop-wait : goal.invariant-loop-wait
invariant-loop-wait l = l.counts ≡ map (λ h. h.count) (take l.wait-index l.waits)
