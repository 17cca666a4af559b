use Rattle.std.proofs.Common.{◌≡◌, drop, map, nat_eq}
use Rattle.std.specs.Prelude.{find}
use Rattle.scc_elab_after.specs.Processes.{clock_in}
use Rattle.scc_elab_after.proofs.clocks.known_of.Given as goal

abbrev pub invariant-loop-b : goal.invariant-loop-b
invariant-loop-b l = find (λ b. nat_eq b.root l.root) (map clock_in l.firsts) ≡ find (λ b. nat_eq b.root l.root) (map clock_in (drop l.b-index l.firsts))
