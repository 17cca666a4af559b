use Rattle.std.proofs.Common.{map, List, ◌++◌}
use Rattle.scc_core.specs.declared.expr.CoreLeft.{CoreLeft}
use Rattle.scc_core.specs.Copies.{pointer_in_left}
use Rattle.scc_core.specs.Copies.{Follows, IsChain}
use Rattle.scc_core.proofs.copy.pointers.Given as goal

-- whatever comes next completes the chain
abbrev pub invariant-loop-pointer : goal.invariant-loop-pointer
invariant-loop-pointer l = (ys : List CoreLeft) → Follows pointer_in_left (pointer_in_left l.here) ys → IsChain pointer_in_left l.fn.left (map (λ x. x.now) l.found.items ++ ys)
