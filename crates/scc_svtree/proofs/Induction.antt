-- Expressions and statements node by node: induction over them, and what a definition over them says of a node.
use Rattle.std.proofs.Common.{◌≡◌, ℕ, Bool, List, [], ◌∷◌, map, subst, ap, ◌∙◌}
use Rattle.scc_svtree.specs.declared.expr.SvExpr.{SvExpr, fold-SvExpr, fold-roll-SvExpr, ind-SvExpr}
use Rattle.scc_svtree.specs.declared.expr.SvExprNode.{SvExprNode, roll-SvExprNode, map-SvExprNode, fold-SvExprNode, fold-roll-SvExprNode}
use Rattle.scc_svtree.specs.declared.expr.SvExprNode.TheOpen.{SvExprNode-F}
use Rattle.scc_svtree.specs.declared.expr.SvExprNode.TheOpen as node
use Rattle.scc_svtree.specs.declared.stmt.SvStmt.{SvStmt, roll-SvStmt, map-SvStmt, ind-SvStmt}
use Rattle.scc_svtree.specs.declared.stmt.SvArm.{SvArm, roll-SvArm, map-SvArm}
use Rattle.scc_svtree.specs.declared.stmt.SvStmt.TheOpen.{SvStmt-F, SvArm-F}
use Rattle.scc_svtree.specs.declared.stmt.SvStmt.TheOpen as stmt
use Rattle.scc_svtree.specs.declared.expr.SvLiteral.{SvLiteral}
use Rattle.scc_svtree.specs.declared.expr.SvLeft.{SvLeft}
use Rattle.scc_svtree.specs.declared.expr.SvUnary.{SvUnary}
use Rattle.scc_svtree.specs.declared.expr.SvBinary.{SvBinary}
use Rattle.scc_svtree.specs.Sound.{Each}

-- ---- expressions

abbrev boxed : SvExprNode → SvExpr
boxed n = record { node = n }

abbrev pub made : SvExprNode-F SvExprNode SvExpr → SvExpr
made x = boxed (roll-SvExprNode x)

pub expr_made : (A : Type 0) (step : SvExprNode-F A A → A) (x : SvExprNode-F SvExprNode SvExpr)
    → fold-SvExpr A A step (λ e. e.node) (made x) ≡ step (map-SvExprNode SvExprNode SvExpr A A (fold-SvExprNode A A step (λ e. e.node)) (fold-SvExpr A A step (λ e. e.node)) x)
expr_made A step x = fold-roll-SvExpr A A step (λ e. e.node) (record { node = roll-SvExprNode x }) ∙ fold-roll-SvExprNode A A step (λ e. e.node) x

-- it holds of each value that a list names
pub each_value : {A B : Type 0} (P : A → Type 0) (value : B → A) → ((b : B) → P (value b)) → (bs : List B) → Each P (map value bs)
each_value P value holds [] = tt
each_value P value holds (b ∷ bs) = (holds b, each_value P value holds bs)

module _ (P : SvExpr → Type 0)
    (literal : (l : SvLiteral) → P (made (node.Literal l)))
    (left : (l : SvLeft) → P (made (node.Left l)))
    (unary : (o : SvUnary) (a : SvExpr) → P a → P (made (node.Unary o a)))
    (binary : (o : SvBinary) (a b : SvExpr) → P a → P b → P (made (node.Binary o a b)))
    (choice : (c a b : SvExpr) → P c → P a → P b → P (made (node.Cond c a b)))
    (concat : (parts : List SvExpr) → Each P parts → P (made (node.Concat parts)))
    (cast : (w : ℕ) (a : SvExpr) → P a → P (made (node.Cast w a)))
    (sign : (s : Bool) (a : SvExpr) → P a → P (made (node.Sign s a))) where
  by_node : (A B : Type 0) (inner : A → SvExprNode) (value : B → SvExpr) → ((b : B) → P (value b)) → (y : SvExprNode-F A B) → P (made (map-SvExprNode A B SvExprNode SvExpr inner value y))
  by_node A B inner value holds (node.Literal l) = literal l
  by_node A B inner value holds (node.Left l) = left l
  by_node A B inner value holds (node.Unary o a) = unary o (value a) (holds a)
  by_node A B inner value holds (node.Binary o a b) = binary o (value a) (value b) (holds a) (holds b)
  by_node A B inner value holds (node.Cond c a b) = choice (value c) (value a) (value b) (holds c) (holds a) (holds b)
  by_node A B inner value holds (node.Concat parts) = concat (map value parts) (each_value P value holds parts)
  by_node A B inner value holds (node.Cast w a) = cast w (value a) (holds a)
  by_node A B inner value holds (node.Sign s a) = sign s (value a) (holds a)

  -- what holds of a node where it holds of its parts, holds of each expression
  pub by_expr : (e : SvExpr) → P e
  by_expr = ind-SvExpr (λ n. P (boxed n)) P
      (λ x y is. subst (λ z. P (made z)) is (by_node _ _ (λ e. e.0) (λ e. e.0) (λ e. e.1) y))
      (λ x y is. subst (λ z. P (boxed z)) (ap (λ z. z.node) is) y.node.1)

-- ---- statements

abbrev pub arm_made : SvLiteral → List SvStmt → SvArm
arm_made label body = roll-SvArm (record { label = label; body = body })

module _ (P : SvStmt → Type 0) (Q : SvArm → Type 0)
    (assign : (l : SvLeft) (e : SvExpr) → P (roll-SvStmt (stmt.Assign l e)))
    (if_else : (c : SvExpr) (a b : List SvStmt) → Each P a → Each P b → P (roll-SvStmt (stmt.If c a b)))
    (case_of : (e : SvExpr) (arms : List SvArm) → Each Q arms → P (roll-SvStmt (stmt.Case e arms)))
    (arm : (label : SvLiteral) (body : List SvStmt) → Each P body → Q (arm_made label body)) where
  module _ (A B : Type 0) (value : A → SvStmt) (arm_value : B → SvArm) (holds : (a : A) → P (value a)) (arm_holds : (b : B) → Q (arm_value b)) where
    stmt_by_node : (y : SvStmt-F A B) → P (roll-SvStmt (map-SvStmt A B SvStmt SvArm value arm_value y))
    stmt_by_node (stmt.Assign l e) = assign l e
    stmt_by_node (stmt.If c a b) = if_else c (map value a) (map value b) (each_value P value holds a) (each_value P value holds b)
    stmt_by_node (stmt.Case e arms) = case_of e (map arm_value arms) (each_value Q arm_value arm_holds arms)

    arm_by_node : (y : SvArm-F A B) → Q (roll-SvArm (map-SvArm A B SvStmt SvArm value arm_value y))
    arm_by_node y = arm y.label (map value y.body) (each_value P value holds y.body)

  pub by_stmt : (s : SvStmt) → P s
  by_stmt = ind-SvStmt P Q
      (λ x y is. subst (λ z. P (roll-SvStmt z)) is (stmt_by_node _ _ (λ e. e.0) (λ e. e.0) (λ e. e.1) (λ e. e.1) y))
      (λ x y is. subst (λ z. Q (roll-SvArm z)) is (arm_by_node _ _ (λ e. e.0) (λ e. e.0) (λ e. e.1) (λ e. e.1) y))
