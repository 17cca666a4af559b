-- The greatest number of a block that is left, statement by statement.
use Rattle.std.proofs.Common.{◌≡◌, ℕ, max, List, [], ◌∷◌, ◌++◌, ◌∙◌, ap, arith}
use Rattle.scc_core.specs.declared.stmt.CoreStmt.{CoreStmt}
use Rattle.scc_core_spec.specs.Code as core
use Rattle.scc_core_view.specs.Codes.{code_of, stmt_code}
use Rattle.scc_lower_tree_laws.specs.Stating.{greatest}
use Rattle.scc_lower_tree_laws.proofs.Stating.{code-more, greatest-append}

pub greatest-more : (depth : ℕ) (ss : List CoreStmt) (s : CoreStmt) → greatest depth (code_of (ss ++ s ∷ [])) ≡ max (greatest depth (code_of (s ∷ []))) (greatest depth (code_of ss))
greatest-more depth ss s = (let e : greatest depth (code_of (ss ++ s ∷ [])) ≡ max (greatest depth (code_of ss)) (greatest depth (stmt_code s core.End)) = ap (greatest depth) (code-more ss s) ∙ greatest-append depth (code_of ss) (stmt_code s core.End) in omega (arith, e))
