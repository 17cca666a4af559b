-- The operand of an expression that stands first in it.
use Rattle.std.specs.Prelude.{ℕ, zero, suc, Option, Some, None, unwrap_or}
use Rattle.scc_core.specs.declared.expr.CoreExpr.{CoreExpr}
use Rattle.scc_core.specs.declared.expr.CoreLeft.{CoreLeft}
use Rattle.scc_core.specs.declared.expr.CoreBase.{CoreBase}
use Rattle.scc_core.specs.declared.expr.CorePart.{CorePart}
use Rattle.scc_core.specs.declared.expr.CorePick.{CorePick}
use Rattle.scc_core.specs.declared.expr.CoreExprNode.{CoreExprNode, out-CoreExprNode}
use Rattle.scc_core.specs.declared.expr.CoreBase.TheOpen.{CoreExprNode-F}
use Rattle.scc_core.specs.declared.expr.CoreBase.TheOpen as tree

abbrev pub first_in : CoreExprNode-F CoreBase CoreExprNode CorePart CorePick CoreExpr CoreLeft → Option CoreExpr
first_in (tree.Convert e) = Some e
first_in (tree.Operate o a b) = Some a
first_in (tree.Choose t a b) = Some t
first_in (tree.Pick e p) = Some e
first_in _ = None

abbrev pub first_of : CoreExpr → Option CoreExpr
first_of e = first_in (out-CoreExprNode e.node)

-- an expression that has none is its own
abbrev pub inner : CoreExpr → CoreExpr
inner e = unwrap_or (first_of e) e

-- the first operand so many levels down, or the innermost
abbrev pub operand : ℕ → CoreExpr → CoreExpr
operand zero e = e
operand (suc n) e = operand n (inner e)
