-- The walk over an expression or a statement of a module, by its node.
use Rattle.std.proofs.Common.{◌≡◌, ℕ, Bool, List, map, decimal}
use Rattle.scc_svtree.specs.declared.module.SvVar.{SvVar}
use Rattle.scc_svtree.specs.declared.expr.SvExpr.{SvExpr}
use Rattle.scc_svtree.specs.declared.expr.SvExprNode.TheOpen as node
use Rattle.scc_svtree.specs.declared.expr.SvLiteral.{SvLiteral}
use Rattle.scc_svtree.specs.declared.expr.SvLeft.{SvLeft}
use Rattle.scc_svtree.specs.declared.expr.SvUnary.{SvUnary}
use Rattle.scc_svtree.specs.declared.expr.SvBinary.{SvBinary}
use Rattle.scc_svtree.specs.declared.stmt.SvStmt.{SvStmt, roll-SvStmt}
use Rattle.scc_svtree.specs.declared.stmt.SvStmt.TheOpen as stmt
use Rattle.scc_svtree.specs.declared.stmt.SvArm.{SvArm}
use Rattle.scc_svread_check.specs.Scope.{Scope}
use Rattle.scc_svread_check.specs.Parts.{Part, literal_part, left_part, left_walk, unary_part, binary_part, cond_part, concat_part, cast_part, sign_part, measured, node_part, part_of}
use Rattle.scc_svread_check.specs.Lines.{Line, Choice, assign_line, if_line, case_line, stmt_node, arm_node, line_of, choice_of}
use Rattle.scc_svread_written.specs.Written.{raw_literal, raw_left, raw_expr, raw_stmt}
use Rattle.scc_svtree.proofs.Induction.{made, arm_made}
use Rattle.scc_svread_written.proofs.NamedTrees.{raw_arm, at_literal, at_left, at_unary, at_binary, at_cond, at_concat, at_cast, at_sign, at_assign, at_if, at_case, at_arm}

module _ (scope : Scope) where
  module _ (vars : List SvVar) where
    abbrev pub part_in : SvExpr → Part
    part_in x = part_of scope (raw_expr vars x)

    abbrev pub line_in : SvStmt → Line
    line_in x = line_of scope (raw_stmt vars x)

    abbrev pub choice_in : SvArm → Choice
    choice_in x = choice_of scope (raw_arm vars x)

    pub in_literal : (l : SvLiteral) → part_in (made (node.Literal l)) ≡ measured (literal_part (raw_literal l.width l.value.bits))
    in_literal l = at_literal vars (node_part scope) l

    pub in_left : (l : SvLeft) → part_in (made (node.Left l)) ≡ measured (left_part scope (raw_left vars l))
    in_left l = at_left vars (node_part scope) l

    pub in_unary : (o : SvUnary) (a : SvExpr) → part_in (made (node.Unary o a)) ≡ measured (unary_part o (part_in a))
    in_unary o a = at_unary vars (node_part scope) o a

    pub in_binary : (o : SvBinary) (a b : SvExpr) → part_in (made (node.Binary o a b)) ≡ measured (binary_part o (part_in a) (part_in b))
    in_binary o a b = at_binary vars (node_part scope) o a b

    pub in_cond : (c a b : SvExpr) → part_in (made (node.Cond c a b)) ≡ measured (cond_part (part_in c) (part_in a) (part_in b))
    in_cond c a b = at_cond vars (node_part scope) c a b

    pub in_concat : (ps : List SvExpr) → part_in (made (node.Concat ps)) ≡ measured (concat_part (map (part_of scope) (map (raw_expr vars) ps)))
    in_concat ps = at_concat vars (node_part scope) ps

    pub in_cast : (w : ℕ) (a : SvExpr) → part_in (made (node.Cast w a)) ≡ measured (cast_part (decimal w) (part_in a))
    in_cast w a = at_cast vars (node_part scope) w a

    pub in_sign : (signed : Bool) (a : SvExpr) → part_in (made (node.Sign signed a)) ≡ measured (sign_part signed (part_in a))
    in_sign signed a = at_sign vars (node_part scope) signed a

    pub in_assign : (l : SvLeft) (x : SvExpr) → line_in (roll-SvStmt (stmt.Assign l x)) ≡ assign_line (left_walk scope (raw_left vars l)) (part_in x)
    in_assign l x = at_assign vars (stmt_node scope) arm_node l x

    pub in_if : (c : SvExpr) (xs ys : List SvStmt) → line_in (roll-SvStmt (stmt.If c xs ys)) ≡ if_line (part_in c) (map (line_of scope) (map (raw_stmt vars) xs)) (map (line_of scope) (map (raw_stmt vars) ys))
    in_if c xs ys = at_if vars (stmt_node scope) arm_node c xs ys

    pub in_case : (c : SvExpr) (xs : List SvArm) → line_in (roll-SvStmt (stmt.Case c xs)) ≡ case_line (part_in c) (map (choice_of scope) (map (raw_arm vars) xs))
    in_case c xs = at_case vars (stmt_node scope) arm_node c xs

    pub in_arm : (label : SvLiteral) (xs : List SvStmt) → choice_in (arm_made label xs) ≡ record { label = raw_literal label.width label.value.bits; body = map (line_of scope) (map (raw_stmt vars) xs) }
    in_arm label xs = at_arm vars (stmt_node scope) arm_node label xs
