-- Node by node: the code of a module's statements, and what a definition over trees as they are written says of its trees.
use Rattle.std.proofs.Common.{◌≡◌, ℕ, Bool, List, map, decimal, ap, ◌∙◌}
use Rattle.scc_svtree.specs.declared.module.SvVar.{SvVar}
use Rattle.scc_svtree.specs.declared.expr.SvExpr.{SvExpr}
use Rattle.scc_svtree.specs.declared.expr.SvExprNode.TheOpen as node
use Rattle.scc_svtree.specs.declared.expr.SvLiteral.{SvLiteral}
use Rattle.scc_svtree.specs.declared.expr.SvLeft.{SvLeft}
use Rattle.scc_svtree.specs.declared.expr.SvUnary.{SvUnary}
use Rattle.scc_svtree.specs.declared.expr.SvBinary.{SvBinary}
use Rattle.scc_svtree.specs.declared.stmt.SvStmt.{SvStmt, roll-SvStmt, fold-roll-SvStmt}
use Rattle.scc_svtree.specs.declared.stmt.SvStmt.TheOpen as stmt
use Rattle.scc_svtree.specs.declared.stmt.SvArm.{SvArm, fold-SvArm, fold-roll-SvArm}
use Rattle.scc_svtree.specs.Term.{term_of}
use Rattle.scc_svtree.specs.Code.{Code, Assign, If, Case, Arms, None, Arm, before, stmt_node, arm_node, stmt_code, code_of}
use Rattle.scc_svread_grammar.specs.declared.raw.RawExpr.{RawExpr, fold-RawExpr}
use Rattle.scc_svread_grammar.specs.declared.raw.RawExpr.TheOpen as raw
use Rattle.scc_svread_grammar.specs.declared.raw.RawExpr.TheOpen.{RawExpr-F}
use Rattle.scc_svread_grammar.specs.declared.raw.RawStmt.{RawStmt, fold-RawStmt}
use Rattle.scc_svread_grammar.specs.declared.raw.RawStmt.TheOpen as s
use Rattle.scc_svread_grammar.specs.declared.raw.RawStmt.TheOpen.{RawStmt-F, RawArm-F}
use Rattle.scc_svread_grammar.specs.declared.raw.RawArm.{RawArm, fold-RawArm}
use Rattle.scc_svread_written.specs.Written.{raw_literal, raw_left, raw_node, raw_expr, raw_stmt_node, raw_arm_node, raw_stmt}
use Rattle.scc_svtree.proofs.Induction.{made, expr_made, arm_made}
use Rattle.scc_svread_written.proofs.RawFolds as folds

-- ---- the code of statements

abbrev pub arm_code : SvArm → Arms → Arms
arm_code = fold-SvArm (Code → Code) (Arms → Arms) stmt_node arm_node

pub code_assign : (l : SvLeft) (x : SvExpr) → stmt_code (roll-SvStmt (stmt.Assign l x)) ≡ (λ rest. Assign l (term_of x) rest)
code_assign l x = fold-roll-SvStmt (Code → Code) (Arms → Arms) stmt_node arm_node (stmt.Assign l x)

pub code_if : (c : SvExpr) (a b : List SvStmt) → stmt_code (roll-SvStmt (stmt.If c a b)) ≡ (λ rest. If (term_of c) (code_of a) (code_of b) rest)
code_if c a b = fold-roll-SvStmt (Code → Code) (Arms → Arms) stmt_node arm_node (stmt.If c a b)

abbrev pub arms_code : List SvArm → Arms
arms_code arms = before (map arm_code arms) None

pub code_case : (x : SvExpr) (arms : List SvArm) → stmt_code (roll-SvStmt (stmt.Case x arms)) ≡ (λ rest. Case (term_of x) (arms_code arms) rest)
code_case x arms = fold-roll-SvStmt (Code → Code) (Arms → Arms) stmt_node arm_node (stmt.Case x arms)

pub code_arm : (label : SvLiteral) (body : List SvStmt) → arm_code (arm_made label body) ≡ (λ rest. Arm label.width label.value.bits (code_of body) rest)
code_arm label body = fold-roll-SvArm (Code → Code) (Arms → Arms) stmt_node arm_node (record { label = label; body = body })

module _ (vars : List SvVar) where
  -- ---- expressions

  module _ {A : Type 0} (step : RawExpr-F A → A) where
    abbrev over : RawExpr → A
    over = fold-RawExpr A step

    abbrev of_expr : SvExpr → A
    of_expr x = over (raw_expr vars x)

    pub at_literal : (l : SvLiteral) → of_expr (made (node.Literal l)) ≡ step (raw.Literal (raw_literal l.width l.value.bits))
    at_literal l = ap over (expr_made RawExpr (raw_node vars) (node.Literal l)) ∙ folds.at_literal A step (raw_literal l.width l.value.bits)

    pub at_left : (l : SvLeft) → of_expr (made (node.Left l)) ≡ step (raw.Left (raw_left vars l))
    at_left l = ap over (expr_made RawExpr (raw_node vars) (node.Left l)) ∙ folds.at_left A step (raw_left vars l)

    pub at_unary : (o : SvUnary) (a : SvExpr) → of_expr (made (node.Unary o a)) ≡ step (raw.Unary o (of_expr a))
    at_unary o a = ap over (expr_made RawExpr (raw_node vars) (node.Unary o a)) ∙ folds.at_unary A step o (raw_expr vars a)

    pub at_binary : (o : SvBinary) (a b : SvExpr) → of_expr (made (node.Binary o a b)) ≡ step (raw.Binary o (of_expr a) (of_expr b))
    at_binary o a b = ap over (expr_made RawExpr (raw_node vars) (node.Binary o a b)) ∙ folds.at_binary A step o (raw_expr vars a) (raw_expr vars b)

    pub at_cond : (c a b : SvExpr) → of_expr (made (node.Cond c a b)) ≡ step (raw.Cond (of_expr c) (of_expr a) (of_expr b))
    at_cond c a b = ap over (expr_made RawExpr (raw_node vars) (node.Cond c a b)) ∙ folds.at_cond A step (raw_expr vars c) (raw_expr vars a) (raw_expr vars b)

    pub at_concat : (parts : List SvExpr) → of_expr (made (node.Concat parts)) ≡ step (raw.Concat (map (fold-RawExpr A step) (map (raw_expr vars) parts)))
    at_concat parts = ap over (expr_made RawExpr (raw_node vars) (node.Concat parts)) ∙ folds.at_concat A step (map (raw_expr vars) parts)

    pub at_cast : (w : ℕ) (a : SvExpr) → of_expr (made (node.Cast w a)) ≡ step (raw.Cast (decimal w) (of_expr a))
    at_cast w a = ap over (expr_made RawExpr (raw_node vars) (node.Cast w a)) ∙ folds.at_cast A step (decimal w) (raw_expr vars a)

    pub at_sign : (signed : Bool) (a : SvExpr) → of_expr (made (node.Sign signed a)) ≡ step (raw.Sign signed (of_expr a))
    at_sign signed a = ap over (expr_made RawExpr (raw_node vars) (node.Sign signed a)) ∙ folds.at_sign A step signed (raw_expr vars a)

  -- ---- statements

  abbrev pub raw_arm : SvArm → RawArm
  raw_arm = fold-SvArm RawStmt RawArm (raw_stmt_node vars) raw_arm_node

  module _ {A B : Type 0} (step : RawStmt-F A B → A) (arm_step : RawArm-F A B → B) where
    abbrev over_stmt : RawStmt → A
    over_stmt = fold-RawStmt A B step arm_step

    abbrev over_arm : RawArm → B
    over_arm = fold-RawArm A B step arm_step

    pub at_assign : (l : SvLeft) (x : SvExpr) → over_stmt (raw_stmt vars (roll-SvStmt (stmt.Assign l x))) ≡ step (s.Assign (raw_left vars l) (raw_expr vars x))
    at_assign l x = ap over_stmt (fold-roll-SvStmt RawStmt RawArm (raw_stmt_node vars) raw_arm_node (stmt.Assign l x)) ∙ folds.at_assign A B step arm_step (raw_left vars l) (raw_expr vars x)

    pub at_if : (c : SvExpr) (a b : List SvStmt)
        → over_stmt (raw_stmt vars (roll-SvStmt (stmt.If c a b))) ≡ step (s.If (raw_expr vars c) (map over_stmt (map (raw_stmt vars) a)) (map over_stmt (map (raw_stmt vars) b)))
    at_if c a b = ap over_stmt (fold-roll-SvStmt RawStmt RawArm (raw_stmt_node vars) raw_arm_node (stmt.If c a b)) ∙ folds.at_if A B step arm_step (raw_expr vars c) (map (raw_stmt vars) a) (map (raw_stmt vars) b)

    pub at_case : (x : SvExpr) (arms : List SvArm)
        → over_stmt (raw_stmt vars (roll-SvStmt (stmt.Case x arms))) ≡ step (s.Case (raw_expr vars x) (map over_arm (map raw_arm arms)))
    at_case x arms = ap over_stmt (fold-roll-SvStmt RawStmt RawArm (raw_stmt_node vars) raw_arm_node (stmt.Case x arms)) ∙ folds.at_case A B step arm_step (raw_expr vars x) (map raw_arm arms)

    pub at_arm : (label : SvLiteral) (body : List SvStmt)
        → over_arm (raw_arm (arm_made label body)) ≡ arm_step (record { label = raw_literal label.width label.value.bits; body = map over_stmt (map (raw_stmt vars) body) })
    at_arm label body = ap over_arm (fold-roll-SvArm RawStmt RawArm (raw_stmt_node vars) raw_arm_node (record { label = label; body = body }))
        ∙ folds.at_arm A B step arm_step (raw_literal label.width label.value.bits) (map (raw_stmt vars) body)
