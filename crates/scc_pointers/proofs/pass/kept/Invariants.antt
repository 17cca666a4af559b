use Rattle.std.proofs.Common.{◌≡◌, not}
use Rattle.std.specs.Prelude.{filter}
use Rattle.scc_pointers_walk.specs.Pointers.{is_pointer}
use Rattle.scc_pointers.proofs.pass.kept.Given as goal

abbrev pub invariant-loop-cell : goal.invariant-loop-cell
invariant-loop-cell l = l.out ≡ filter (λ x. not (is_pointer x)) l.yielded
