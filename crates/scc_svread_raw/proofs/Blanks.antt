-- Blanks, one by one.
use Rattle.std.specs.Prelude.{◌≡◌, ℕ, zero, suc, ◌-◌, ◌<◌, ◌≤◌, List, [], ◌∷◌, replicate, Ok, Err, refl}
use Rattle.std.proofs.Common.{sym, ◌∙◌, ap, arith}
use Rattle.scc_reading.specs.Reading.{Outcome, and_then, token}
use Rattle.scc_svread_grammar.specs.declared.halt.Halt.{Halt}
use Rattle.scc_svread_grammar.specs.declared.halt.Halt.TheVariants as halt
use Rattle.scc_svread_grammar.specs.Answer.{Fails}
use Rattle.scc_svread_grammar.specs.Lexical.{Bytes}
use Rattle.scc_svread_grammar.specs.Leaves.{is_byte, text}
use Rattle.std.specs.Prelude.{codes}
use Rattle.scc_reading.specs.Reading.{Parser, pure, ◌>>=◌, ◌>>◌}
use Rattle.scc_svtext.specs.Pieces.{blanks}
use Rattle.scc_svread_grammar.specs.declared.raw.RawStmt.{RawStmt}
use Rattle.scc_svread_grammar.specs.declared.raw.RawBlock.TheVariants.{Comb}
use Rattle.scc_svread_grammar.specs.Reader.{inner}
use Rattle.scc_svread_grammar.specs.Reader as p

more_blanks : (n : ℕ) → 0 < n → replicate {A = ℕ} n 32 ≡ 32 ∷ replicate (n - 1) 32
more_blanks zero h = absurd (omega arith)
more_blanks (suc n) h = let e : suc n - 1 ≡ n = omega arith in ap (λ k. 32 ∷ replicate k 32) (sym e)

one_then : (w ts : Bytes) → text (32 ∷ w) ts ≡ and_then (text (32 ∷ []) ts) (λ _. text w)
unfolding text
one_then w ts = go (token (is_byte 32) ts)
  where
    go : (o : Outcome ℕ (Unit {0})) → and_then o (λ _. text w) ≡ and_then (and_then o (λ _. text [])) (λ _. text w)
    go (Ok x) = refl
    go (Err f) = refl

blank_then : (n : ℕ) (ts : Bytes) → 0 < n → text (replicate n 32) ts ≡ and_then (text (32 ∷ []) ts) (λ _. text (replicate (n - 1) 32))
blank_then n ts h = ap (λ w. text w ts) (more_blanks n h) ∙ one_then (replicate (n - 1) 32) ts

pub blank_passed : (n : ℕ) (ts r : Bytes) (whole : Outcome ℕ (Unit {0})) → 0 < n → text (32 ∷ []) ts ≡ Ok (tt {0}, r) → text (replicate n 32) ts ≡ whole → text (replicate (n - 1) 32) r ≡ whole
blank_passed n ts r whole h e so_far = sym (blank_then n ts h ∙ ap (λ o. and_then o (λ _. text (replicate (n - 1) 32))) e) ∙ so_far

pub blank_fails : (e : Halt) (n : ℕ) (ts : Bytes) (whole : Outcome ℕ (Unit {0})) → 0 < n → Fails e (text (32 ∷ []) ts) → text (replicate n 32) ts ≡ whole → Fails e whole
blank_fails halt.NoMemory n ts whole h f so_far = tt
blank_fails (halt.Unexpected left) n ts whole h f so_far = (f.0, sym so_far ∙ blank_then n ts h ∙ ap (λ o. and_then o (λ _. text (replicate (n - 1) 32))) f.1, f.2)
blank_fails (halt.TooDeep left) n ts whole h f so_far = (f.0, sym so_far ∙ blank_then n ts h ∙ ap (λ o. and_then o (λ _. text (replicate (n - 1) 32))) f.1, f.2)

pub no_blanks : (n : ℕ) (ts : Bytes) (whole : Outcome ℕ (Unit {0})) → n ≤ 0 → text (replicate n 32) ts ≡ whole → whole ≡ Ok (tt {0}, ts)
unfolding text
no_blanks n ts whole h so_far = let e : n ≡ 0 = omega (arith, h) in sym so_far ∙ ap (λ k. text (replicate k 32) ts) e

-- the steps up to the first statement behind an `else`
pub other_steps : (n k : ℕ) (u v : Unit {0}) (ts a b r : Bytes) (first : RawStmt) → text (codes " else begin\n") ts ≡ Ok (u, a) → text (blanks k) a ≡ Ok (v, b) → p.line (inner n) k b ≡ Ok (first, r)
    → p.other (inner n) k ts ≡ p.stmts_behind (inner n) k first r
unfolding p.other
other_steps n k u v ts a b r first e f g =
    ap (λ o. and_then o (λ _. text (blanks k) >> (p.line (inner n) k >>= p.stmts_behind (inner n) k))) e
    ∙ ap (λ o. and_then o (λ _. p.line (inner n) k >>= p.stmts_behind (inner n) k)) f ∙ ap (λ o. and_then o (p.stmts_behind (inner n) k)) g

-- the steps up to the end of a combinational block
pub comb_steps : (n : ℕ) (u : Unit {0}) (ts a b : Bytes) (body : List RawStmt) → text (codes "comb begin\n  ") ts ≡ Ok (u, a) → p.stmts (inner n) 2 a ≡ Ok (body, b)
    → p.comb (inner n) ts ≡ and_then (text (codes "end\n") b) (λ _. pure (Comb body))
unfolding p.comb
comb_steps n u ts a b body e f =
    ap (λ o. and_then o (λ _. p.stmts (inner n) 2 >>= λ found. text (codes "end\n") >>= λ _. pure (Comb found))) e
    ∙ ap (λ o. and_then o (λ found. text (codes "end\n") >>= λ _. pure (Comb found))) f

-- what fails first fails with what is behind it
pub fails_then : {A B : Type 0} (e : Halt) (o : Outcome ℕ A) (f : A → Parser ℕ B) → Fails e o → Fails e (and_then o f)
fails_then halt.NoMemory o f h = tt
fails_then (halt.Unexpected left) o f h = (h.0, ap (λ x. and_then x f) h.1, h.2)
fails_then (halt.TooDeep left) o f h = (h.0, ap (λ x. and_then x f) h.1, h.2)
