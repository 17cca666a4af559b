-- Indices that are kept in variables, and how far they reach.
use Rattle.std.proofs.Common.{◌≡◌, ℕ, ◌+◌, ◌*◌, ◌^◌, ◌<◌, ◌≤◌, min, leb, nat_lt, true, List, [], ◌∷◌, ◌++◌, length, refl, sym, ◌∙◌, ap, arith}
use Rattle.std.proofs.Math.Nat.{pow-le-pow_right}
use Rattle.scc_svtree.specs.declared.expr.SvExpr.{SvExpr}
use Rattle.scc_svtree.specs.declared.stmt.SvStmt.{SvStmt}
use Rattle.scc_svtree.specs.declared.stmt.SvStmt.TheVariants as statement
use Rattle.scc_svtree.specs.Code.{code_of}
use Rattle.scc_svtree.specs.Term.{term_of}
use Rattle.scc_lower_laws.specs.Outcome as outcome
use Rattle.scc_lower_laws.specs.Sequence.{then_code, whole}
use Rattle.scc_lower_tree_laws.specs.Finding.{Keeping, made}
use Rattle.scc_lower_tree_laws.specs.States.{Seen}
use Rattle.scc_lower_expressions.proofs.Codes.{code-append, code-assign}

wide-reach : (w n : ℕ) → 32 ≤ w → n < 4294967296 → n < 2 ^ w
wide-reach w n h f =
    let d : 2 ^ 32 ≤ 2 ^ w = pow-le-pow_right {n = 2} (omega arith) h in
    let e : 4294967296 ≤ 2 ^ w = d in
    omega (arith, e, f)

pub reach-test : (w n : ℕ) → 32 ≤ w → n < 4294967296 → leb 32 w ≡ nat_lt n (2 ^ w)
reach-test w n h f =
    let r : n < 2 ^ w = wide-reach w n h f in
    let p : leb 32 w ≡ true = grind (arith, h) in
    let q : nat_lt n (2 ^ w) ≡ true = grind (arith, r) in
    p ∙ sym q

pub reach-all : (w n : ℕ) → 32 ≤ w → n < 4294967296 → n ≡ min n (2 ^ w)
reach-all w n h f = let r : n < 2 ^ w = wide-reach w n h f in omega (arith, r)

-- a new temporary holds a text
pub made-kept : (n bits number var : ℕ) (t : SvExpr) (views : List Seen) (exit : ℕ) (old new : List ℕ) (front more : List SvStmt) → var ≡ 2 * n + 1 + number → number ≡ length old → new ≡ old ++ bits ∷ [] → more ≡ front ++ statement.Assign (whole var) t ∷ []
    → Keeping n (outcome.Made (term_of t)) bits (record { views = views; exit = exit; temporaries = old; before = code_of front }) (record { variable = var; width = bits }) (record { views = views; exit = exit; temporaries = new; before = code_of more })
made-kept n bits number var t views exit old new front more at long ts code =
    let same : code_of more ≡ then_code (code_of front) (code_of (statement.Assign (whole var) t ∷ [])) = ap code_of code ∙ code-append front (statement.Assign (whole var) t ∷ []) in
    let text = same ∙ ap (then_code (code_of front)) (code-assign (whole var) t) in
    made refl (at ∙ ap (λ m. 2 * n + 1 + m) long) (λ i. record { views = views; exit = exit; temporaries = ts i; before = text i })
