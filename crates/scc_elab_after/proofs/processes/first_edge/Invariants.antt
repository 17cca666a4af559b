use Rattle.std.proofs.Common.{◌≡◌, drop, is_some}
use Rattle.std.specs.Prelude.{filter}
use Rattle.scc_elab_after.proofs.processes.first_edge.Given as goal

abbrev pub invariant-loop-i : goal.invariant-loop-i
invariant-loop-i l = filter (λ i. is_some i.rising) l.items ≡ filter (λ i. is_some i.rising) (drop l.i-index l.items)
