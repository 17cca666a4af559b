-- Concatenations of two parts or more, in the trees themselves: a term doesn't tell one of a single part.
use Rattle.std.specs.Prelude.{Bool, true, false, ◌&&◌, List, [], ◌∷◌}
use Rattle.std.specs.List.{list_all}
use Rattle.scc_svtree.specs.declared.expr.SvExpr.{SvExpr, fold-SvExpr}
use Rattle.scc_svtree.specs.declared.expr.SvExprNode.TheOpen.{SvExprNode-F}
use Rattle.scc_svtree.specs.declared.expr.SvExprNode.TheOpen as node
use Rattle.scc_svtree.specs.declared.stmt.SvStmt.{SvStmt, fold-SvStmt}
use Rattle.scc_svtree.specs.declared.stmt.SvStmt.TheOpen.{SvStmt-F, SvArm-F}
use Rattle.scc_svtree.specs.declared.stmt.SvStmt.TheOpen as stmt
use Rattle.scc_svtree.specs.declared.module.SvBlock.{SvBlock}
use Rattle.scc_svtree.specs.declared.module.SvBlock.TheVariants.{Comb, Edge}

abbrev pub each_true : List Bool → Bool
each_true [] = true
each_true (b ∷ bs) = b && each_true bs

abbrev pub two_or_more : List Bool → Bool
two_or_more [] = false
two_or_more (b ∷ []) = false
two_or_more (b ∷ c ∷ more) = true

abbrev pub node_concats : SvExprNode-F Bool Bool → Bool
node_concats (node.Literal l) = true
node_concats (node.Left l) = true
node_concats (node.Unary o a) = a
node_concats (node.Binary o a b) = a && b
node_concats (node.Cond c a b) = c && (a && b)
node_concats (node.Concat parts) = two_or_more parts && each_true parts
node_concats (node.Cast w e) = e
node_concats (node.Sign s e) = e

-- each concatenation of an expression has two parts or more (IEEE 1800-2017, 11.4.12)
abbrev pub expr_concats : SvExpr → Bool
expr_concats = fold-SvExpr Bool Bool node_concats (λ e. e.node)

abbrev pub stmt_node_concats : SvStmt-F Bool Bool → Bool
stmt_node_concats (stmt.Assign l e) = expr_concats e
stmt_node_concats (stmt.If c then_part else_part) = expr_concats c && (each_true then_part && each_true else_part)
stmt_node_concats (stmt.Case e arms) = expr_concats e && each_true arms

abbrev pub arm_concats : SvArm-F Bool Bool → Bool
arm_concats a = each_true a.body

abbrev pub stmt_concats : SvStmt → Bool
stmt_concats = fold-SvStmt Bool Bool stmt_node_concats arm_concats

abbrev pub block_concats : SvBlock → Bool
block_concats (Comb ss) = list_all stmt_concats ss
block_concats (Edge rising clock reset sets) = list_all (λ s. expr_concats s.value) sets
