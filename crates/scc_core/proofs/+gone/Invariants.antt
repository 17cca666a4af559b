use Rattle.std.proofs.Common.{◌≤◌}
use Rattle.scc_core.specs.declared.expr.CoreExpr.{size-CoreExpr}
use Rattle.scc_core.specs.declared.expr.CoreLeft.{size-CoreLeft}
use Rattle.scc_core.proofs.+gone.Given as goal

abbrev pub decreases-expr::CoreExpr::drop : goal.decreases-expr::CoreExpr::drop
decreases-expr::CoreExpr::drop l = goal.size-expr::CoreExpr::drop l

abbrev pub decreases-expr::CoreLeft::drop : goal.decreases-expr::CoreLeft::drop
decreases-expr::CoreLeft::drop l = goal.size-expr::CoreLeft::drop l

abbrev pub invariant-expr::CoreExpr::drop-loop-word : goal.invariant-expr::CoreExpr::drop-loop-word
invariant-expr::CoreExpr::drop-loop-word l = size-CoreExpr l.self ≤ size-CoreExpr l.initial.self

abbrev pub invariant-expr::CoreLeft::drop-loop-cell : goal.invariant-expr::CoreLeft::drop-loop-cell
invariant-expr::CoreLeft::drop-loop-cell l = size-CoreLeft l.self ≤ size-CoreLeft l.initial.self
