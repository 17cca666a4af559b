-- The emitted expressions and statements as terms and code.
use Rattle.std.proofs.Common.{◌≡◌, ℕ, zero, suc, List, [], ◌∷◌, map, ap, refl, ◌∙◌}
use Rattle.scc_svtree.specs.declared.expr.SvLeft.TheVariants.{Whole}
use Rattle.scc_svtree.specs.declared.expr.SvExpr.{SvExpr, fold-roll-SvExpr}
use Rattle.scc_svtree.specs.declared.expr.SvExprNode.{roll-SvExprNode, fold-roll-SvExprNode}
use Rattle.scc_svtree.specs.declared.expr.SvExprNode.TheOpen.{SvExprNode-F}
use Rattle.scc_svtree.specs.declared.expr.SvExprNode.TheOpen as node
use Rattle.scc_svtree.specs.declared.stmt.SvStmt.{fold-roll-SvStmt}
use Rattle.scc_svtree.specs.declared.stmt.SvStmt.TheOpen as stmt
use Rattle.scc_svtree.specs.Term as term
use Rattle.scc_svtree.specs.Term.{Term, term_of, term_node}
use Rattle.scc_svtree.specs.Code as code
use Rattle.scc_svtree.specs.Code.{Code, Arms, code_of, stmt_code, stmt_node, arm_node, before}
use Rattle.scc_svtree.specs.Variables.{width_at}
use Rattle.scc_thin.specs.declared.design.Port.{Port}
use Rattle.scc_thin.specs.declared.design.Bitwise.{Bitwise}
use Rattle.scc_thin_module.specs.Emitted.{variable, cast, zero_of, both, binary_of, assign, var_of, width_of}

pub term_variable : (i : ℕ) → term_of (variable i) ≡ term.Part (Whole (record { 0 = i }))
term_variable i =
    fold-roll-SvExpr Term Term term_node (λ e. e.node) (record { node = roll-SvExprNode (node.Left (Whole (record { 0 = i }))) })
    ∙ fold-roll-SvExprNode Term Term term_node (λ e. e.node) (node.Left (Whole (record { 0 = i })))

pub term_zero : (w : ℕ) → term_of (zero_of w) ≡ term.Literal w 0
term_zero w =
    fold-roll-SvExpr Term Term term_node (λ e. e.node) (record { node = roll-SvExprNode (node.Literal (record { width = w; value = record { bits = 0 } })) })
    ∙ fold-roll-SvExprNode Term Term term_node (λ e. e.node) (node.Literal (record { width = w; value = record { bits = 0 } }))

pub term_cast : (w : ℕ) (e : SvExpr) → term_of (cast w e) ≡ term.Cast w (term_of e)
term_cast w e =
    fold-roll-SvExpr Term Term term_node (λ e. e.node) (record { node = roll-SvExprNode (node.Cast w e) })
    ∙ fold-roll-SvExprNode Term Term term_node (λ e. e.node) (node.Cast w e)

pub term_both : (o : Bitwise) (a b : SvExpr) → term_of (both o a b) ≡ term.Binary (binary_of o) (term_of a) (term_of b)
term_both o a b =
    fold-roll-SvExpr Term Term term_node (λ e. e.node) (record { node = roll-SvExprNode (node.Binary (binary_of o) a b) })
    ∙ fold-roll-SvExprNode Term Term term_node (λ e. e.node) (node.Binary (binary_of o) a b)

pub code_assign : (i : ℕ) (e : SvExpr) (rest : Code) → stmt_code (assign i e) rest ≡ code.Assign (Whole (record { 0 = i })) (term_of e) rest
code_assign i e rest = ap (λ f. f rest) (fold-roll-SvStmt (Code → Code) (Arms → Arms) stmt_node arm_node (stmt.Assign (Whole (record { 0 = i })) e))

pub width_vars : (ps : List Port) (i : ℕ) → width_at (map var_of ps) i ≡ width_of ps i
width_vars [] i = refl
width_vars (p ∷ ps) zero = refl
width_vars (p ∷ ps) (suc i) = width_vars ps i
