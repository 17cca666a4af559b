-- The operands along which an expression is copied.
use Rattle.std.specs.Prelude.{◌≡◌, List, [], ◌∷◌, Option, Some, None}
use Rattle.scc_svtree.specs.declared.expr.SvExpr.{SvExpr}
use Rattle.scc_svtree.specs.declared.expr.SvExprNode.{SvExprNode, out-SvExprNode}
use Rattle.scc_svtree.specs.declared.expr.SvExprNode.TheOpen.{SvExprNode-F}
use Rattle.scc_svtree.specs.declared.expr.SvExprNode.TheOpen as node

abbrev pub first_in : SvExprNode-F SvExprNode SvExpr → Option SvExpr
first_in (node.Unary o a) = Some a
first_in (node.Binary o a b) = Some a
first_in (node.Cond c a b) = Some c
first_in (node.Cast w a) = Some a
first_in (node.Sign s a) = Some a
first_in _ = None

-- the operand that is copied first
abbrev pub first_of : SvExpr → Option SvExpr
first_of e = first_in (out-SvExprNode e.node)

-- each of the list is the first operand of the one before it, and so is the last item
abbrev pub IsPath : SvExpr → List SvExpr → SvExpr → Type 0
IsPath x [] z = x ≡ z
IsPath x (y ∷ ys) z = (y ≡ x) × ((u : SvExpr) × (first_of x ≡ Some u) × IsPath u ys z)
