-- Expressions as plain terms: what the tree of an expression says, without its boxes.
use Rattle.std.specs.Prelude.{ℕ, Bool, false, List, [], ◌∷◌}
use Rattle.scc_svtree.specs.declared.expr.SvExpr.{SvExpr, fold-SvExpr}
use Rattle.scc_svtree.specs.declared.expr.SvExprNode.TheOpen.{SvExprNode-F}
use Rattle.scc_svtree.specs.declared.expr.SvExprNode.TheOpen as node
use Rattle.scc_svtree.specs.declared.expr.SvLeft.{SvLeft}
use Rattle.scc_svtree.specs.declared.expr.SvUnary.{SvUnary}
use Rattle.scc_svtree.specs.declared.expr.SvBinary.{SvBinary}

-- An expression (IEEE 1800-2017, 11.2). A concatenation `{a, b, c}` is `{a, {b, c}}`, which has the same bits.
pub data Term : Type 0 where
  Literal : (width word : ℕ) → Term
  Part : SvLeft → Term
  Unary : SvUnary → Term → Term
  Binary : SvBinary → Term → Term → Term
  Cond : (test then_term else_term : Term) → Term
  Join : Term → Term → Term
  Cast : (width : ℕ) → Term → Term
  Sign : (signed : Bool) → Term → Term

-- a concatenation of one part is that part without sign
abbrev pub joined : List Term → Term
joined [] = Literal 0 0
joined (t ∷ []) = Sign false t
joined (t ∷ u ∷ more) = Join t (joined (u ∷ more))

abbrev pub term_node : SvExprNode-F Term Term → Term
term_node (node.Literal l) = Literal l.width l.value.bits
term_node (node.Left l) = Part l
term_node (node.Unary o a) = Unary o a
term_node (node.Binary o a b) = Binary o a b
term_node (node.Cond c a b) = Cond c a b
term_node (node.Concat parts) = joined parts
term_node (node.Cast w e) = Cast w e
term_node (node.Sign s e) = Sign s e

-- the term that a tree stands for
abbrev pub term_of : SvExpr → Term
term_of = fold-SvExpr Term Term term_node (λ e. e.node)
