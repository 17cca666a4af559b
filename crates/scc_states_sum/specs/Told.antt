-- The numbers that what is known before a run tells of expressions.
use Rattle.std.specs.Prelude.{Option}
use Rattle.scc_bits.specs.Value.{Number}
use Rattle.scc_core.specs.declared.expr.CoreExpr.{CoreExpr}
use Rattle.scc_core.specs.declared.statics.Known.{Known}
use Rattle.scc_core.specs.Known.{facts_in}
use Rattle.scc_core.specs.Statics.{value_in}

unfoldable pub numbers_in : Known → CoreExpr → Option Number
numbers_in known e = value_in (facts_in known) e
