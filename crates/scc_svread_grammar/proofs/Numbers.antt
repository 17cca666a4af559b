-- Reading numbers and literals: what is read is right, and what is right is read.
use Rattle.std.specs.Prelude.{◌≡◌, ℕ, nat_le, Bool, true, false, ◌||◌, ◌&&◌, if◌then◌else◌, [], ◌∷◌, ◌++◌, length, codes, bytes_eq, Some, None, Ok, refl}
use Rattle.std.proofs.Common.{sym, ◌∙◌, ap, eqb-true}
use Rattle.std.proofs.lemmas.Slice.Eq.{bytes_eq-Decides}
use Rattle.scc_reading.specs.Reading.{and_then, ◌>>=◌, ◌>>◌, pure, take_at, is_next, by_test}
use Rattle.scc_reading.proofs.Answer.{Rule, Answers}
use Rattle.scc_reading.proofs.Core.{answers_by, answers_choose}
use Rattle.scc_reading.proofs.Steps.{answers_seq, answers_head, answers_pure_at}
use Rattle.scc_svread_grammar.specs.declared.raw.RawLiteral.{RawLiteral}
use Rattle.scc_svread_grammar.specs.Lexical.{Bytes, is_digit, is_hex_digit, all_pass, is_positive, is_decimal, digits_of, ReadsDecimal, ReadsLiteral}
use Rattle.scc_svread_grammar.specs.Leaves.{is_positive_digit, is_zero, text, run, positive, decimal, literal_of, digits_behind, literal}
use Rattle.scc_svread_grammar.proofs.Runs.{passes_is, answers_run, answers_count, answers_text_0, answers_text_1, reads_run, reads_count}

abbrev pub RPositive : Rule ℕ Bytes
RPositive = λ n ts r. (ts ≡ n ++ r) × (is_positive n ≡ true)

pub positive_is : (b : ℕ) (more : Bytes) → is_positive_digit b ≡ true → all_pass is_digit more ≡ true → is_positive (b ∷ more) ≡ true
positive_is b more h k = go (nat_le 49 b) (nat_le b 57) (all_pass is_digit more) h k
  where
    go : (x y z : Bool) → (x && y) ≡ true → z ≡ true → (x && y && z) ≡ true
    go true true z h k = k
    go true false z h k = cc
    go false y z h k = cc

pub sound_positive : Answers 1 RPositive positive
unfolding positive
sound_positive = answers_head 49 49 refl (λ b. answers_seq (answers_run is_digit) (λ more. answers_pure_at (λ y ts d t h.
    let p : (t ≡ b) × (is_positive_digit t ≡ true) = passes_is is_positive_digit t b h in
    let pb : is_positive_digit b ≡ true = ap is_positive_digit (sym p.0) ∙ p.1 in
    (rw (p.0, d.0) refl, positive_is b more pb d.1))))

abbrev pub RDecimal : Rule ℕ Bytes
RDecimal = λ n ts r. ReadsDecimal ts r n

pub positive_decimal : (n : Bytes) → is_positive n ≡ true → is_decimal n ≡ true
positive_decimal n h = go (bytes_eq n (codes "0")) (is_positive n) h
  where
    go : (a b : Bool) → b ≡ true → (a || b) ≡ true
    go true b h = refl
    go false b h = h

pub sound_decimal : Answers 1 RDecimal decimal
unfolding decimal
sound_decimal = answers_choose 1 is_zero _ _ _ (answers_text_1 48 [] (answers_pure_at (λ y. (refl, refl))))
    (answers_by RPositive RDecimal (λ n ts r d. (d.0, positive_decimal n d.1)) sound_positive)

-- a literal behind its width
abbrev pub RDigits : Bytes → Rule ℕ RawLiteral
RDigits width = λ l mid r. is_decimal width ≡ true → ReadsLiteral (width ++ (codes "'h" ++ mid)) r l

pub sound_digits : (width : Bytes) → Answers 0 (RDigits width) (digits_behind width)
unfolding digits_behind
sound_digits width = answers_seq (answers_count is_hex_digit (digits_of width) 48 refl) (λ digits. answers_pure_at (λ y ts d h. (rw d.0 refl, h, d.1, d.2)))

abbrev pub RLiteral : Rule ℕ RawLiteral
RLiteral = λ l ts r. ReadsLiteral ts r l

pub sound_literal : Answers 1 RLiteral literal
unfolding literal
sound_literal = answers_seq sound_decimal (λ width. answers_text_0 (codes "'h") (answers_by (RDigits width) (λ l mid r. (ts : Bytes) → ReadsDecimal ts (codes "'h" ++ mid) width → ReadsLiteral ts r l)
    (λ l mid r h ts d. let k : ReadsLiteral (width ++ (codes "'h" ++ mid)) r l = h d.1 in (d.0 ∙ k.0, k.1, k.2, k.3)) (sound_digits width)))

-- ---- what is right is read

-- the next byte is no digit
abbrev pub NoDigit : Bytes → Type 0
NoDigit r = is_next is_digit r ≡ false

pub positive_first : (b : ℕ) (more : Bytes) → is_positive (b ∷ more) ≡ true → is_positive_digit b ≡ true
positive_first b more h = go (nat_le 49 b) (nat_le b 57) (all_pass is_digit more) h
  where
    go : (x y z : Bool) → (x && y && z) ≡ true → (x && y) ≡ true
    go true true z h = refl
    go true false z h = cc
    go false y z h = cc

positive_more : (b : ℕ) (more : Bytes) → is_positive (b ∷ more) ≡ true → all_pass is_digit more ≡ true
positive_more b more h = go (nat_le 49 b) (nat_le b 57) (all_pass is_digit more) h
  where
    go : (x y z : Bool) → (x && y && z) ≡ true → z ≡ true
    go true true z h = h
    go true false z h = cc
    go false y z h = cc

pub reads_positive : (n r : Bytes) → is_positive n ≡ true → NoDigit r → positive (n ++ r) ≡ Ok (n, r)
unfolding positive
reads_positive [] r h k = cc
reads_positive (b ∷ more) r h k =
    ap (λ c. and_then (take_at (if c then Some b else None) b (more ++ r)) (λ b. run is_digit >>= λ more. pure (b ∷ more))) (positive_first b more h)
    ∙ ap (λ o. and_then o (λ more. pure (b ∷ more))) (reads_run is_digit more r (positive_more b more h) k)

-- a number above 0 doesn't begin with a zero
positive_no_zero : (b : ℕ) (more : Bytes) → is_positive (b ∷ more) ≡ true → is_zero b ≡ false
positive_no_zero b more h = go (is_zero b) refl
  where
    go : (c : Bool) → is_zero b ≡ c → c ≡ false
    go false e = refl
    go true e = let same : b ≡ 48 = eqb-true b 48 e in let k : is_positive_digit 48 ≡ true = ap is_positive_digit (sym same) ∙ positive_first b more h in cc

pub reads_decimal : (n r : Bytes) → is_decimal n ≡ true → NoDigit r → decimal (n ++ r) ≡ Ok (n, r)
unfolding decimal text
reads_decimal n r h k = go n (bytes_eq n (codes "0")) refl h
  where
    go : (n : Bytes) (c : Bool) → bytes_eq n (codes "0") ≡ c → (c || is_positive n) ≡ true → decimal (n ++ r) ≡ Ok (n, r)
    go n true e h = let same : n ≡ codes "0" = (bytes_eq-Decides n (codes "0")).0 e in rw same refl
    go [] false e h = cc
    go (b ∷ more) false e h = ap (λ c. by_test c (text (codes "0") >> pure (codes "0")) positive (b ∷ (more ++ r))) (positive_no_zero b more h) ∙ reads_positive (b ∷ more) r h k

pub reads_digits : (l : RawLiteral) (r : Bytes) → all_pass is_hex_digit l.digits ≡ true → length l.digits ≡ digits_of l.width → digits_behind l.width (l.digits ++ r) ≡ Ok (l, r)
unfolding digits_behind
reads_digits l r h k = rw (← k) (ap (λ o. and_then o (λ digits. pure (literal_of l.width digits))) (reads_count is_hex_digit l.digits r h))

pub reads_literal : (ts r : Bytes) (l : RawLiteral) → ReadsLiteral ts r l → literal ts ≡ Ok (l, r)
unfolding literal text
reads_literal ts r l d = rw d.0 (ap (λ o. and_then o (λ width. text (codes "'h") >> digits_behind width)) (reads_decimal l.width (codes "'h" ++ (l.digits ++ r)) d.1 refl) ∙ reads_digits l r d.2 d.3)
