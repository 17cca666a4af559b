-- What an expression or a statement as it is written stands for, by its node.
use Rattle.std.proofs.Common.{◌≡◌, Bool, List, map}
use Rattle.scc_svtree.specs.declared.expr.SvExpr.{SvExpr}
use Rattle.scc_svtree.specs.declared.expr.SvExprNode.TheOpen as node
use Rattle.scc_svtree.specs.declared.expr.SvUnary.{SvUnary}
use Rattle.scc_svtree.specs.declared.expr.SvBinary.{SvBinary}
use Rattle.scc_svread_grammar.specs.declared.raw.RawLiteral.{RawLiteral}
use Rattle.scc_svread_grammar.specs.declared.raw.RawLeft.{RawLeft}
use Rattle.scc_svread_grammar.specs.declared.raw.RawExpr.{RawExpr}
use Rattle.scc_svread_grammar.specs.declared.raw.RawExpr.TheVariants as e
use Rattle.scc_svread_grammar.specs.declared.raw.RawExpr.TheOpen.{RawExpr-F}
use Rattle.scc_svtree.specs.declared.stmt.SvStmt.{SvStmt, roll-SvStmt}
use Rattle.scc_svtree.specs.declared.stmt.SvStmt.TheOpen as stmt
use Rattle.scc_svtree.specs.declared.stmt.SvArm.{SvArm}
use Rattle.scc_svread_grammar.specs.declared.raw.RawStmt.{RawStmt}
use Rattle.scc_svread_grammar.specs.declared.raw.RawStmt.TheVariants as s
use Rattle.scc_svread_grammar.specs.declared.raw.RawArm.{RawArm, fold-RawArm}
use Rattle.scc_svread_grammar.specs.Grammar.{arm}
use Rattle.scc_svread_grammar.specs.Lexical.{Bytes}
use Rattle.scc_svread_check.specs.Numbers.{small_number}
use Rattle.scc_svread_written.specs.Resolved.{literal_of, left_of, expr_node, expr_of, stmt_node, arm_node, stmt_of}
use Rattle.scc_svtree.proofs.Induction.{made, arm_made}
use Rattle.scc_svread_written.proofs.RawFolds.{at_literal, at_left, at_unary, at_binary, at_cond, at_concat, at_cast, at_sign, at_assign, at_if, at_case, at_arm}

module _ (names : List Bytes) where
  abbrev step : RawExpr-F SvExpr → SvExpr
  step x = record { node = expr_node names x }

  pub of_literal : (l : RawLiteral) → expr_of names (e.Literal l) ≡ made (node.Literal (literal_of l))
  of_literal l = at_literal SvExpr step l

  pub of_left : (l : RawLeft) → expr_of names (e.Left l) ≡ made (node.Left (left_of names l))
  of_left l = at_left SvExpr step l

  pub of_unary : (o : SvUnary) (a : RawExpr) → expr_of names (e.Unary o a) ≡ made (node.Unary o (expr_of names a))
  of_unary o a = at_unary SvExpr step o a

  pub of_binary : (o : SvBinary) (a b : RawExpr) → expr_of names (e.Binary o a b) ≡ made (node.Binary o (expr_of names a) (expr_of names b))
  of_binary o a b = at_binary SvExpr step o a b

  pub of_cond : (c a b : RawExpr) → expr_of names (e.Cond c a b) ≡ made (node.Cond (expr_of names c) (expr_of names a) (expr_of names b))
  of_cond c a b = at_cond SvExpr step c a b

  pub of_concat : (parts : List RawExpr) → expr_of names (e.Concat parts) ≡ made (node.Concat (map (expr_of names) parts))
  of_concat parts = at_concat SvExpr step parts

  pub of_cast : (w : Bytes) (a : RawExpr) → expr_of names (e.Cast w a) ≡ made (node.Cast (small_number w) (expr_of names a))
  of_cast w a = at_cast SvExpr step w a

  pub of_sign : (s : Bool) (a : RawExpr) → expr_of names (e.Sign s a) ≡ made (node.Sign s (expr_of names a))
  of_sign s a = at_sign SvExpr step s a

  -- ---- statements

  pub of_assign : (l : RawLeft) (x : RawExpr) → stmt_of names (s.Assign l x) ≡ roll-SvStmt (stmt.Assign (left_of names l) (expr_of names x))
  of_assign l x = at_assign SvStmt SvArm (stmt_node names) arm_node l x

  pub of_if : (c : RawExpr) (a b : List RawStmt) → stmt_of names (s.If c a b) ≡ roll-SvStmt (stmt.If (expr_of names c) (map (stmt_of names) a) (map (stmt_of names) b))
  of_if c a b = at_if SvStmt SvArm (stmt_node names) arm_node c a b

  abbrev pub arm_of : RawArm → SvArm
  arm_of = fold-RawArm SvStmt SvArm (stmt_node names) arm_node

  pub of_case : (x : RawExpr) (arms : List RawArm) → stmt_of names (s.Case x arms) ≡ roll-SvStmt (stmt.Case (expr_of names x) (map arm_of arms))
  of_case x arms = at_case SvStmt SvArm (stmt_node names) arm_node x arms

  pub of_arm : (label : RawLiteral) (body : List RawStmt) → arm_of (arm label body) ≡ arm_made (literal_of label) (map (stmt_of names) body)
  of_arm label body = at_arm SvStmt SvArm (stmt_node names) arm_node label body
