use Rattle.std.proofs.Common.{◌≤◌}
use Rattle.scc_svtree.specs.declared.expr.SvExpr.{size-SvExpr}
use Rattle.scc_svtree.proofs.expr.SvExpr.+gone.Given as goal

abbrev pub decreases-drop : goal.decreases-drop
decreases-drop l = goal.size-drop l

abbrev pub invariant-loop-literal : goal.invariant-loop-literal
invariant-loop-literal l = size-SvExpr l.self ≤ size-SvExpr l.initial.self
