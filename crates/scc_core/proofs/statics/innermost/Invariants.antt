use Rattle.std.proofs.Common.{◌≡◌, ◌≤◌, ◌+◌}
use Rattle.scc_core.specs.declared.expr.CoreExpr.{size-CoreExpr}
use Rattle.scc_core.specs.Operands.{operand}
use Rattle.scc_core.proofs.statics.innermost.Given as goal

abbrev pub invariant-loop-height : goal.invariant-loop-height
invariant-loop-height l = record {
  down : l.here ≡ operand l.height l.e;
  size : size-CoreExpr l.here + l.height ≤ size-CoreExpr l.e;
}

abbrev pub decreases-loop-height : goal.decreases-loop-height
decreases-loop-height l = size-CoreExpr l.here
