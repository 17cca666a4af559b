use Rattle.std.proofs.Common.{◌≡◌, ◌≤◌}
use Rattle.scc_core.specs.declared.expr.CoreExpr.{size-CoreExpr}
use Rattle.scc_core.specs.Operands.{operand}
use Rattle.scc_core.proofs.statics.down.Given as goal

abbrev pub invariant-loop : goal.invariant-loop
invariant-loop l = record {
  down : l.here ≡ operand l.counter l.e;
  size : size-CoreExpr l.here ≤ size-CoreExpr l.e;
}
