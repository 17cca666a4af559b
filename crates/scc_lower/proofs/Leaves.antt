-- The text of how blocks are left.
use Rattle.std.proofs.Common.{◌≡◌, ℕ, ◌+◌, ◌*◌, inr, List, [], ◌∷◌, ◌++◌, ◌∙◌, ap, arith}
use Rattle.scc_svtree.specs.declared.expr.SvBinary.TheVariants as binary
use Rattle.scc_svtree.specs.declared.expr.SvExpr.{SvExpr}
use Rattle.scc_svtree.specs.declared.stmt.SvStmt.{SvStmt}
use Rattle.scc_svtree.specs.declared.stmt.SvStmt.TheVariants as statement
use Rattle.scc_svtree.specs.Code.{Assign, Code, End, If, code_of}
use Rattle.scc_svtree.specs.Term as emitted
use Rattle.scc_svtree.specs.Term.{term_of}
use Rattle.scc_lower_laws.specs.Elements.{variable_of}
use Rattle.scc_lower_laws.specs.Sequence.{then_code, whole}
use Rattle.scc_lower_tree_laws.specs.Stating.{is_leaving, leave}
use Rattle.scc_lower_expressions.proofs.Codes.{code-append, code-assign, code-if}
use Rattle.scc_lower.specs.Texts.{IsGuarded}

pub is-leaving : (n exit k v : ℕ) (var number : SvExpr) → v ≡ n * 2 + 0 → term_of var ≡ variable_of v → term_of number ≡ emitted.Literal exit k → emitted.Binary binary.Eq (term_of var) (term_of number) ≡ is_leaving n exit k
is-leaving n exit k v var number at is literal =
    let same : v ≡ 2 * n = omega (arith, at) in
    let left : term_of var ≡ variable_of (2 * n) = is ∙ ap variable_of same in
    λ i. emitted.Binary binary.Eq (left i) (literal i)

pub leaves-by : (n exit k v : ℕ) (value : SvExpr) → v ≡ n * 2 + 0 → term_of value ≡ emitted.Literal exit k → code_of (statement.Assign (whole v) value ∷ []) ≡ leave n exit k
leaves-by n exit k v value at is =
    let same : v ≡ 2 * n = omega (arith, at) in
    code-assign (whole v) value ∙ (λ i. Assign (whole (same i)) (is i) End)

pub guards-some : (n exit : ℕ) (test : SvExpr) (ss none old new : List SvStmt) → term_of test ≡ is_leaving n exit 0 → none ≡ [] → new ≡ old ++ statement.If test ss none ∷ [] → IsGuarded n exit (code_of ss) (code_of old) (code_of new)
guards-some n exit test ss none old new is empty put =
    inr (ap code_of put ∙ code-append old (statement.If test ss none ∷ []) ∙ ap (then_code (code_of old)) (code-if test ss none ∙ (λ i. If (is i) (code_of ss) (code_of (empty i)) End)))
