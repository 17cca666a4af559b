use Rattle.std.proofs.Common.{map, List, ◌++◌}
use Rattle.scc_core.specs.declared.expr.CoreExpr.{CoreExpr}
use Rattle.scc_pointers_walk.specs.Walked.{first_of}
use Rattle.scc_core.specs.Copies.{Follows, IsChain}
use Rattle.scc_pointers_walk.proofs.walk.spine.Given as goal

-- whatever comes next completes the chain
abbrev pub invariant-loop-inner : goal.invariant-loop-inner
invariant-loop-inner l = (ys : List CoreExpr) → Follows first_of (first_of l.here) ys → IsChain first_of l.fn.e (map (λ x. x.now) l.found.items ++ ys)
