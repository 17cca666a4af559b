-- The bytes of identifiers and decimals.
use Rattle.std.proofs.Common.{◌≡◌, ℕ, ◌+◌, ◌%◌, ◌^◌, ◌<◌, nat_eq, nat_le, Bool, true, false, not, ◌&&◌, ◌||◌, List, [], ◌∷◌, ◌++◌, decimal, refl, sym, ap, ◌∙◌, arith}
use Rattle.std.specs.List.{list_all}
use Rattle.std.proofs.lemmas.Fmt.{decimal_by_steps}
use Rattle.scc_lower_spec.specs.Parts.{is_digit, is_letter, is_word_byte, is_identifier}

-- no byte is a `$`
abbrev pub is_plain : List ℕ → Bool
is_plain [] = true
is_plain (b ∷ bs) = not (nat_eq b 36) && is_plain bs

pub and_left : (a b : Bool) → (a && b) ≡ true → a ≡ true
and_left true b e = refl
and_left false b e = e

pub and_right : (a b : Bool) → (a && b) ≡ true → b ≡ true
and_right true b e = e
and_right false b e = absurd (cc)

pub word_plain : (b : ℕ) → is_word_byte b ≡ true → not (nat_eq b 36) ≡ true
word_plain b e = by (nat_eq b 36) refl
  where
    by : (t : Bool) → nat_eq b 36 ≡ t → not t ≡ true
    by false d = refl
    by true d = let is : b ≡ 36 = grind arith in let f : is_word_byte 36 ≡ true = sym (ap is_word_byte is) ∙ e in absurd (cc)

letter_word : (b : ℕ) → is_letter b ≡ true → is_word_byte b ≡ true
letter_word b e = ap (λ t. t || is_digit b) e

words_plain : (bs : List ℕ) → list_all is_word_byte bs ≡ true → is_plain bs ≡ true
words_plain [] e = refl
words_plain (b ∷ bs) e =
    ap (λ t. t && is_plain bs) (word_plain b (and_left (is_word_byte b) (list_all is_word_byte bs) e)) ∙ words_plain bs (and_right (is_word_byte b) (list_all is_word_byte bs) e)

-- the first byte of a text, if there is one
pub record Begins (P : ℕ → Type 0) (bs : List ℕ) : Type 0 where
  pub first : ℕ
  pub rest : List ℕ
  pub is : bs ≡ first ∷ rest
  pub has : P first
  pub plain : is_plain bs ≡ true

abbrev pub IsLetter : ℕ → Type 0
IsLetter b = is_letter b ≡ true

abbrev pub IsDigit : ℕ → Type 0
IsDigit b = is_digit b ≡ true

pub identifier_begins : (bs : List ℕ) → is_identifier bs ≡ true → Begins IsLetter bs
identifier_begins [] e = absurd (cc)
identifier_begins (b ∷ bs) e =
    let l : is_letter b ≡ true = and_left (is_letter b) (list_all is_word_byte bs) e in
    record {
      first = b;
      rest = bs;
      is = refl;
      has = l;
      plain = ap (λ t. t && is_plain bs) (word_plain b (letter_word b l)) ∙ words_plain bs (and_right (is_letter b) (list_all is_word_byte bs) e);
    }

pub digit_is : (k : ℕ) → k < 10 → is_digit (48 + k) ≡ true
digit_is k h = let p : nat_le 48 (48 + k) ≡ true = grind arith in let q : nat_le (48 + k) 57 ≡ true = grind arith in ap (λ t. t && nat_le (48 + k) 57) p ∙ q

digit_plain : (b : ℕ) → is_digit b ≡ true → not (nat_eq b 36) ≡ true
digit_plain b e = word_plain b (by (is_letter b) (is_digit b) e)
  where
    by : (s t : Bool) → t ≡ true → (s || t) ≡ true
    by true t e = refl
    by false t e = e

plain_append : (a b : List ℕ) → is_plain a ≡ true → is_plain b ≡ true → is_plain (a ++ b) ≡ true
plain_append [] b p q = q
plain_append (x ∷ a) b p q = ap (λ t. t && is_plain (a ++ b)) (and_left (not (nat_eq x 36)) (is_plain a) p) ∙ plain_append a b (and_right (not (nat_eq x 36)) (is_plain a) p) q

digit_begins : (k : ℕ) → k < 10 → Begins IsDigit ((48 + k) ∷ [])
digit_begins k h = record { first = 48 + k; rest = []; is = refl; has = digit_is k h; plain = ap (λ t. t && true) (digit_plain (48 + k) (digit_is k h)) }

pub decimal_begins : (n : ℕ) → n < 2 ^ 32 → Begins IsDigit (decimal n)
decimal_begins n h = decimal_by_steps (λ m ds. Begins IsDigit ds) (λ m l. digit_begins m l) (λ m ds l p. more m ds p) n (omega arith)
  where
    more : (m : ℕ) (ds : List ℕ) → Begins IsDigit ds → Begins IsDigit (ds ++ ((48 + m % 10) ∷ []))
    more m ds p =
        let last = digit_begins (m % 10) (omega arith) in
        record {
          first = p.first;
          rest = p.rest ++ ((48 + m % 10) ∷ []);
          is = ap (λ l. l ++ ((48 + m % 10) ∷ [])) p.is;
          has = p.has;
          plain = plain_append ds ((48 + m % 10) ∷ []) p.plain last.plain;
        }

pub no_letter : (b : ℕ) → is_digit b ≡ true → is_letter b ≡ true → ⊥
no_letter b e f =
    let q : nat_le b 57 ≡ true = and_right (nat_le 48 b) (nat_le b 57) e in
    let one : nat_le 97 b ≡ false = grind arith in
    let two : nat_le 65 b ≡ false = grind arith in
    let three : nat_eq b 95 ≡ false = grind arith in
    let is : is_letter b ≡ false = ap (λ t. (t && nat_le b 122) || (nat_le 65 b && nat_le b 90) || nat_eq b 95) one ∙ ap (λ t. (t && nat_le b 90) || nat_eq b 95) two ∙ three in
    cc
