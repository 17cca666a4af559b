-- What opens a level, where some are left and where none is.
use Rattle.std.specs.Prelude.{◌≡◌, ℕ, zero, suc, ◌≤◌, ◌<◌, nat_eq, nat_le, Bool, true, false, ◌||◌, [], ◌∷◌, ◌++◌, length, replicate, codes, refl, ◌⊎◌}
use Rattle.std.proofs.Common.{sym, ap, subst, arith, inl, inr, eqb-true}
use Rattle.scc_reading.proofs.Answer.{Front, no_front, one_front, both_fronts, Rule, Completes, Answers}
use Rattle.scc_reading.proofs.Answer as answer
use Rattle.scc_reading.proofs.Closed.{answers_closed}
use Rattle.scc_svtree.specs.declared.expr.SvUnary.TheVariants as unary
use Rattle.scc_svtree.specs.Sound.{is_letter}
use Rattle.scc_svtext.specs.Keyword.{is_keyword}
use Rattle.scc_svread_grammar.specs.declared.raw.RawLiteral.{RawLiteral}
use Rattle.scc_svread_grammar.specs.declared.raw.RawSelect.TheVariants.{Whole}
use Rattle.scc_svread_grammar.specs.declared.raw.RawLeft.{RawLeft}
use Rattle.scc_svread_grammar.specs.declared.raw.RawExpr.{RawExpr}
use Rattle.scc_svread_grammar.specs.declared.raw.RawExpr.TheVariants as e
use Rattle.scc_svread_grammar.specs.declared.raw.RawStmt.TheVariants as s
use Rattle.scc_svread_grammar.specs.Lexical.{Bytes, is_digit, is_hex_digit, all_pass, is_decimal, digits_of, ReadsLiteral, ReadsName, ReadsLeft}
use Rattle.scc_svread_grammar.specs.Grammar.{ReadsDivisor, ReadsExpr, ReadsParts, ReadsStmt}
use Rattle.scc_svread_grammar.specs.Leaves.{is_back}
use Rattle.scc_svread_grammar.specs.Reader.{is_paren, is_brace, is_dollar, begins_name, begins_expr, begins_divisor, inner}
use Rattle.std.proofs.lemmas.Bool.{leb-true, leb-false}
use Rattle.scc_svread_grammar.proofs.Runs.{and_left, and_right}
use Rattle.scc_svread_grammar.proofs.Numbers.{positive_is, positive_decimal}
use Rattle.scc_svread_grammar.proofs.Names.{no_short_keyword, spelled_plain}
use Rattle.scc_svread_grammar.proofs.SoundExpr.{RExpr, RDivisor, RNumber, RStmt, Sound, sound_number, sound_divisor, sound_expr}
use Rattle.scc_svread_grammar.proofs.SoundStmt.{sound_stmt}

pub or_cases : (a b : Bool) → (a || b) ≡ true → (a ≡ true) ⊎ (b ≡ true)
or_cases true b h = inl refl
or_cases false b h = inr h

-- ---- texts that begin with a byte

pub digit_decimal : (t : ℕ) → is_digit t ≡ true → is_decimal (t ∷ []) ≡ true
digit_decimal t h = go (nat_le 49 t) refl
  where
    go : (c : Bool) → nat_le 49 t ≡ c → is_decimal (t ∷ []) ≡ true
    go true e = positive_decimal (t ∷ []) (positive_is t [] (rw e (and_right (nat_le 48 t) _ h)) refl)
    go false e =
        let low : 48 ≤ t = leb-true 48 t (and_left (nat_le 48 t) _ h) in
        let high : t < 49 = leb-false 49 t e in
        let same : t ≡ 48 = omega (arith, low, high) in
        subst (λ u. is_decimal (u ∷ []) ≡ true) (sym same) refl

zeros_pass : (n : ℕ) → all_pass is_hex_digit (replicate n 48) ≡ true
zeros_pass zero = refl
zeros_pass (suc n) = zeros_pass n

zeros_long : (n : ℕ) → length {A = ℕ} (replicate n 48) ≡ n
zeros_long zero = refl
zeros_long (suc n) = ap suc (zeros_long n)

abbrev a_literal : ℕ → RawLiteral
a_literal t = record { width = t ∷ []; digits = replicate (digits_of (t ∷ [])) 48 }

reads_a_literal : (t : ℕ) → is_digit t ≡ true → (y : Bytes) → ReadsLiteral (t ∷ (codes "'h" ++ (replicate (digits_of (t ∷ [])) 48 ++ y))) y (a_literal t)
reads_a_literal t h y = (refl, digit_decimal t h, zeros_pass (digits_of (t ∷ [])), zeros_long (digits_of (t ∷ [])))

abbrev literal_front : ℕ → Front ℕ
literal_front t = both_fronts (answer.text (codes "'h")) (answer.text (replicate (digits_of (t ∷ [])) 48))

short_name : (t : ℕ) → is_letter t ≡ true → (y : Bytes) → ReadsName (t ∷ y) y (t ∷ [])
short_name t h y = (ap (λ u. u ++ y) (sym (spelled_plain (t ∷ []) (no_short_keyword t))), rw h refl)

abbrev a_left : ℕ → RawLeft
a_left t = record { name = t ∷ []; select = Whole }

reads_a_left : (t : ℕ) → is_letter t ≡ true → (y : Bytes) → ReadsLeft (t ∷ y) y (a_left t)
reads_a_left t h y = (y, short_name t h y, refl)

abbrev an_expr : RawExpr
an_expr = e.Left (a_left 97)

reads_an_expr : (y : Bytes) → ReadsExpr (97 ∷ y) y an_expr
reads_an_expr y = ReadsExpr.left (a_left 97) (reads_a_left 97 refl y)

abbrev escaped_left : RawLeft
escaped_left = record { name = codes "do"; select = Whole }

escaped_do : (y : Bytes) → ReadsLeft (codes "\\do " ++ y) y escaped_left
unfolding is_keyword
escaped_do y = (y, (refl, refl), refl)

from_divisor : (t : ℕ) → begins_divisor t ≡ true → Completes RDivisor (one_front t)
from_divisor t h = go (or_cases (is_digit t) (is_dollar t) h)
  where
    go : (is_digit t ≡ true) ⊎ (is_dollar t ≡ true) → Completes RDivisor (one_front t)
    go (inl k) = record { by = literal_front t; tree = e.Literal (a_literal t); reads = λ y. ReadsDivisor.plain (a_literal t) (reads_a_literal t k y) }
    go (inr k) = let same : t ≡ 36 = eqb-true t 36 k in
        subst (λ u. Completes RDivisor (one_front u)) (sym same)
        (record { by = answer.text (codes "signed(0'h)"); tree = e.Sign true (e.Literal (a_literal 48)); reads = λ y. ReadsDivisor.signed (a_literal 48) (reads_a_literal 48 refl (41 ∷ y)) })

from_number : (t : ℕ) → is_digit t ≡ true → Completes RNumber (one_front t)
from_number t k = record { by = literal_front t; tree = e.Literal (a_literal t); reads = λ y. (a_literal t, refl, reads_a_literal t k y) }

from_expr : (t : ℕ) → begins_expr t ≡ true → Completes RExpr (one_front t)
from_expr t h = digit (or_cases (((is_digit t || is_paren t) || is_brace t) || is_dollar t) (begins_name t) h)
  where
    at_byte : (b : ℕ) → nat_eq t b ≡ true → Completes RExpr (one_front b) → Completes RExpr (one_front t)
    at_byte b k c = subst (λ u. Completes RExpr (one_front u)) (sym (eqb-true t b k)) c

    of_name : (is_letter t ≡ true) ⊎ (is_back t ≡ true) → Completes RExpr (one_front t)
    of_name (inl k) = record { by = no_front; tree = e.Left (a_left t); reads = λ y. ReadsExpr.left (a_left t) (reads_a_left t k y) }
    of_name (inr k) = at_byte 92 k (record { by = answer.text (codes "do "); tree = e.Left escaped_left; reads = λ y. ReadsExpr.left escaped_left (escaped_do y) })

    of_paren : (is_digit t ≡ true) ⊎ (is_paren t ≡ true) → Completes RExpr (one_front t)
    of_paren (inl k) = record { by = literal_front t; tree = e.Literal (a_literal t); reads = λ y. ReadsExpr.literal (a_literal t) (reads_a_literal t k y) }
    of_paren (inr k) = at_byte 40 k (record { by = answer.text (codes "~a)"); tree = e.Unary unary.Not an_expr; reads = λ y. ReadsExpr.unary refl (reads_an_expr (41 ∷ y)) })

    of_brace : ((is_digit t || is_paren t) ≡ true) ⊎ (is_brace t ≡ true) → Completes RExpr (one_front t)
    of_brace (inl k) = of_paren (or_cases (is_digit t) (is_paren t) k)
    of_brace (inr k) = at_byte 123 k (record {
      by = answer.text (codes "a, a}");
      tree = e.Concat (an_expr ∷ an_expr ∷ []);
      reads = λ y. ReadsExpr.concat (reads_an_expr (codes ", a}" ++ y)) (reads_an_expr (125 ∷ y)) ReadsParts.no_parts;
    })

    of_dollar : (((is_digit t || is_paren t) || is_brace t) ≡ true) ⊎ (is_dollar t ≡ true) → Completes RExpr (one_front t)
    of_dollar (inl k) = of_brace (or_cases (is_digit t || is_paren t) (is_brace t) k)
    of_dollar (inr k) = at_byte 36 k (record { by = answer.text (codes "signed(a)"); tree = e.Sign true an_expr; reads = λ y. ReadsExpr.sign true (reads_an_expr (41 ∷ y)) })

    digit : ((((is_digit t || is_paren t) || is_brace t) || is_dollar t) ≡ true) ⊎ (begins_name t ≡ true) → Completes RExpr (one_front t)
    digit (inl k) = of_dollar (or_cases ((is_digit t || is_paren t) || is_brace t) (is_dollar t) k)
    digit (inr k) = of_name (or_cases (is_letter t) (is_back t) k)

from_stmt : (n : ℕ) (t : ℕ) → begins_name t ≡ true → Completes (RStmt n) (one_front t)
from_stmt n t h = go (or_cases (is_letter t) (is_back t) h)
  where
    go : (is_letter t ≡ true) ⊎ (is_back t ≡ true) → Completes (RStmt n) (one_front t)
    go (inl k) = record { by = answer.text (codes " = a;\n"); tree = s.Assign (a_left t) an_expr; reads = λ y. ReadsStmt.assign (a_left t) (reads_a_left t k (codes " = a;\n" ++ y)) (reads_an_expr (codes ";\n" ++ y)) }
    go (inr k) = subst (λ u. Completes (RStmt n) (one_front u)) (sym (eqb-true t 92 k))
        (record { by = answer.text (codes "do  = a;\n"); tree = s.Assign escaped_left an_expr; reads = λ y. ReadsStmt.assign escaped_left (escaped_do (codes " = a;\n" ++ y)) (reads_an_expr (codes ";\n" ++ y)) })

some_of : {A : Type 0} (R : Rule ℕ A) (t : ℕ) → Completes R (one_front t) → Completes R no_front
some_of R t c = record { by = both_fronts (one_front t) c.by; tree = c.tree; reads = c.reads }

pub sound : (n : ℕ) → Sound (inner n)
unfolding inner
sound zero = record {
  expr = answers_closed begins_expr RExpr (some_of RExpr 97 (from_expr 97 refl)) from_expr;
  divisor = answers_closed begins_divisor RDivisor (some_of RDivisor 48 (from_divisor 48 refl)) from_divisor;
  number = answers_closed is_digit RNumber (some_of RNumber 48 (from_number 48 refl)) from_number;
  stmt = λ k. answers_closed begins_name (RStmt k) (some_of (RStmt k) 97 (from_stmt k 97 refl)) (from_stmt k);
}
sound (suc n) = record {
  expr = sound_expr (inner n) (sound n);
  divisor = sound_divisor (inner n) (sound n);
  number = sound_number;
  stmt = λ k. sound_stmt (inner n) (sound n) k;
}
