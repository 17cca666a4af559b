-- What a definition over expressions and statements as they are written says of a node.
use Rattle.std.proofs.Common.{◌≡◌, Bool, List, map, ap, ◌∙◌}
use Rattle.scc_svtree.specs.declared.expr.SvUnary.{SvUnary}
use Rattle.scc_svtree.specs.declared.expr.SvBinary.{SvBinary}
use Rattle.scc_svread_grammar.specs.declared.raw.RawLiteral.{RawLiteral}
use Rattle.scc_svread_grammar.specs.declared.raw.RawLeft.{RawLeft}
use Rattle.scc_svread_grammar.specs.declared.raw.RawExpr.{RawExpr, roll-RawExpr, fold-RawExpr, fold-roll-RawExpr}
use Rattle.scc_svread_grammar.specs.declared.raw.RawExpr.TheVariants as e
use Rattle.scc_svread_grammar.specs.declared.raw.RawExpr.TheOpen as raw
use Rattle.scc_svread_grammar.specs.declared.raw.RawExpr.TheOpen.{RawExpr-F}
use Rattle.scc_svread_grammar.specs.declared.raw.RawStmt.{RawStmt, roll-RawStmt, fold-RawStmt, fold-roll-RawStmt}
use Rattle.scc_svread_grammar.specs.declared.raw.RawStmt.TheVariants as s
use Rattle.scc_svread_grammar.specs.declared.raw.RawStmt.TheOpen as raw_stmt
use Rattle.scc_svread_grammar.specs.declared.raw.RawStmt.TheOpen.{RawStmt-F, RawArm-F}
use Rattle.scc_svread_grammar.specs.declared.raw.RawArm.{RawArm, fold-RawArm, fold-roll-RawArm}
use Rattle.scc_svread_grammar.specs.Grammar.{arm}
use Rattle.scc_svread_grammar.specs.Lexical.{Bytes}
use denote.Hole.Carrier.{roll}

module _ (A : Type 0) (step : RawExpr-F A → A) where
  abbrev over : RawExpr → A
  over = fold-RawExpr A step

  pub at_literal : (l : RawLiteral) → over (e.Literal l) ≡ step (raw.Literal l)
  unfolding roll-RawExpr roll
  at_literal l = ap over (e.rolls-Literal l) ∙ fold-roll-RawExpr A step (raw.Literal l)

  pub at_left : (l : RawLeft) → over (e.Left l) ≡ step (raw.Left l)
  unfolding roll-RawExpr roll
  at_left l = ap over (e.rolls-Left l) ∙ fold-roll-RawExpr A step (raw.Left l)

  pub at_unary : (o : SvUnary) (a : RawExpr) → over (e.Unary o a) ≡ step (raw.Unary o (over a))
  unfolding roll-RawExpr roll
  at_unary o a = ap over (e.rolls-Unary o a) ∙ fold-roll-RawExpr A step (raw.Unary o a)

  pub at_binary : (o : SvBinary) (a b : RawExpr) → over (e.Binary o a b) ≡ step (raw.Binary o (over a) (over b))
  unfolding roll-RawExpr roll
  at_binary o a b = ap over (e.rolls-Binary o a b) ∙ fold-roll-RawExpr A step (raw.Binary o a b)

  pub at_cond : (c a b : RawExpr) → over (e.Cond c a b) ≡ step (raw.Cond (over c) (over a) (over b))
  unfolding roll-RawExpr roll
  at_cond c a b = ap over (e.rolls-Cond c a b) ∙ fold-roll-RawExpr A step (raw.Cond c a b)

  pub at_concat : (parts : List RawExpr) → over (e.Concat parts) ≡ step (raw.Concat (map over parts))
  unfolding roll-RawExpr roll
  at_concat parts = ap over (e.rolls-Concat parts) ∙ fold-roll-RawExpr A step (raw.Concat parts)

  pub at_cast : (w : Bytes) (a : RawExpr) → over (e.Cast w a) ≡ step (raw.Cast w (over a))
  unfolding roll-RawExpr roll
  at_cast w a = ap over (e.rolls-Cast w a) ∙ fold-roll-RawExpr A step (raw.Cast w a)

  pub at_sign : (t : Bool) (a : RawExpr) → over (e.Sign t a) ≡ step (raw.Sign t (over a))
  unfolding roll-RawExpr roll
  at_sign t a = ap over (e.rolls-Sign t a) ∙ fold-roll-RawExpr A step (raw.Sign t a)

module _ (A B : Type 0) (step : RawStmt-F A B → A) (arm_step : RawArm-F A B → B) where
  abbrev over_stmt : RawStmt → A
  over_stmt = fold-RawStmt A B step arm_step

  abbrev over_arm : RawArm → B
  over_arm = fold-RawArm A B step arm_step

  pub at_assign : (l : RawLeft) (x : RawExpr) → over_stmt (s.Assign l x) ≡ step (raw_stmt.Assign l x)
  unfolding roll-RawStmt roll
  at_assign l x = ap over_stmt (s.rolls-Assign l x) ∙ fold-roll-RawStmt A B step arm_step (raw_stmt.Assign l x)

  pub at_if : (c : RawExpr) (a b : List RawStmt) → over_stmt (s.If c a b) ≡ step (raw_stmt.If c (map over_stmt a) (map over_stmt b))
  unfolding roll-RawStmt roll
  at_if c a b = ap over_stmt (s.rolls-If c a b) ∙ fold-roll-RawStmt A B step arm_step (raw_stmt.If c a b)

  pub at_case : (x : RawExpr) (arms : List RawArm) → over_stmt (s.Case x arms) ≡ step (raw_stmt.Case x (map over_arm arms))
  unfolding roll-RawStmt roll
  at_case x arms = ap over_stmt (s.rolls-Case x arms) ∙ fold-roll-RawStmt A B step arm_step (raw_stmt.Case x arms)

  pub at_arm : (label : RawLiteral) (body : List RawStmt) → over_arm (arm label body) ≡ arm_step (record { label = label; body = map over_stmt body })
  at_arm label body = fold-roll-RawArm A B step arm_step (record { label = label; body = body })
