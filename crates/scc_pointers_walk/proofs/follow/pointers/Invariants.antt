use Rattle.std.proofs.Common.{Bool, map, List, ◌++◌}
use Rattle.scc_core.specs.declared.expr.CoreLeft.{CoreLeft, size-CoreLeft}
use Rattle.scc_core.specs.Copies.{Follows, IsChain}
use Rattle.scc_pointers_walk.specs.Walked.{pointer_of}
use Rattle.scc_pointers_walk.proofs.follow.pointers.Given as goal

-- whatever comes next completes the chain
abbrev pub invariant-loop-pointer : goal.invariant-loop-pointer
invariant-loop-pointer l = (ys : List (CoreLeft × Bool)) → Follows pointer_of (pointer_of (l.here.0.now, l.here.1)) ys → IsChain pointer_of (l.fn.left, l.fn.soft) (map (λ x. (x.0.now, x.1)) l.found.items ++ ys)

abbrev pub decreases-loop-pointer : goal.decreases-loop-pointer
decreases-loop-pointer l = size-CoreLeft l.here.0.now
