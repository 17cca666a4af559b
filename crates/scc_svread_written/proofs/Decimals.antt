-- Decimal digits of a number, and the number that they stand for.
use Rattle.std.proofs.Common.{◌≡◌, ◌<◌, ◌≤◌, ◌+◌, ◌-◌, ◌*◌, ◌/◌, ◌%◌, ◌^◌, ℕ, zero, suc, Bool, true, false, ◌&&◌, nat_le, [], ◌∷◌, ◌++◌, decimal, refl, ap, ◌∙◌, arith}
use Rattle.std.proofs.lemmas.Fmt.{decimal_by_steps}
use Rattle.std.proofs.lemmas.Bool.{le-leb}
use Rattle.scc_svread_check.specs.Numbers.{small_number}
use Rattle.scc_svread_grammar.specs.Lexical.{Bytes, is_digit, all_pass, is_positive, is_decimal, number_from, number}
use Rattle.scc_svread_grammar.proofs.Numbers.{positive_decimal}
use Rattle.scc_svread_grammar.proofs.Runs.{and_left, and_right}

number_push : (before : ℕ) (ds : Bytes) (d : ℕ) → number_from before (ds ++ d ∷ []) ≡ 10 * number_from before ds + (d - 48)
number_push before [] d = refl
number_push before (b ∷ ds) d = number_push (10 * before + (b - 48)) ds d

pub both : (a b : Bool) → a ≡ true → b ≡ true → (a && b) ≡ true
both true b h k = k
both false b h k = cc

passes_push : (ds : Bytes) (d : ℕ) → all_pass is_digit ds ≡ true → is_digit d ≡ true → all_pass is_digit (ds ++ d ∷ []) ≡ true
passes_push [] d h k = both (is_digit d) true k refl
passes_push (b ∷ ds) d h k = both (is_digit b) _ (and_left (is_digit b) _ h) (passes_push ds d (and_right (is_digit b) _ h) k)

positive_push : (ds : Bytes) (d : ℕ) → is_positive ds ≡ true → is_digit d ≡ true → is_positive (ds ++ d ∷ []) ≡ true
positive_push [] d h k = cc
positive_push (b ∷ ds) d h k = both (nat_le 49 b && nat_le b 57) _ (and_left (nat_le 49 b && nat_le b 57) _ h) (passes_push ds d (and_right (nat_le 49 b && nat_le b 57) _ h) k)

digit_is : (n : ℕ) → n < 10 → is_digit (48 + n) ≡ true
digit_is n h = both (nat_le 48 (48 + n)) (nat_le (48 + n) 57) (le-leb 48 (48 + n) (omega arith)) (le-leb (48 + n) 57 (omega arith))

positive_one : (n : ℕ) → n < 10 → 0 < n → is_positive ((48 + n) ∷ []) ≡ true
positive_one n h k = both (nat_le 49 (48 + n) && nat_le (48 + n) 57) true (both (nat_le 49 (48 + n)) (nat_le (48 + n) 57) (le-leb 49 (48 + n) (omega arith)) (le-leb (48 + n) 57 (omega arith))) refl

-- digits that are written of a number
record Spells (n : ℕ) (ds : Bytes) : Type 0 where
  value : number ds ≡ n
  positive : 0 < n → is_positive ds ≡ true
  at_zero : n ≡ 0 → ds ≡ 48 ∷ []

one : (n : ℕ) → n < 10 → Spells n ((48 + n) ∷ [])
one n h = record {
  value = omega arith;
  positive = positive_one n h;
  at_zero = λ e. ap (λ k. (48 + k) ∷ []) e;
}

more : (n : ℕ) (ds : Bytes) → 10 ≤ n → Spells (n / 10) ds → Spells n (ds ++ (48 + n % 10) ∷ [])
more n ds h s = record {
  value = number_push 0 ds (48 + n % 10) ∙ ap (λ k. 10 * k + ((48 + n % 10) - 48)) s.value ∙ omega arith;
  positive = λ k. positive_push ds (48 + n % 10) (s.positive (omega arith)) (digit_is (n % 10) (omega arith));
  at_zero = λ e. absurd (omega arith);
}

spells : (n : ℕ) → n < 2 ^ 64 → Spells n (decimal n)
spells n h = decimal_by_steps Spells one more n h

small : (n : ℕ) → n ≤ 128 → n < 2 ^ 64
small n h = omega arith

pub number_decimal : (n : ℕ) → n ≤ 128 → number (decimal n) ≡ n
number_decimal n h = (spells n (small n h)).value

pub small_decimal : (n : ℕ) → n ≤ 128 → small_number (decimal n) ≡ n
small_decimal n h = let e = number_decimal n h in omega (arith, e, h)

pub decimal_positive : (n : ℕ) → n ≤ 128 → 0 < n → is_positive (decimal n) ≡ true
decimal_positive n h k = (spells n (small n h)).positive k

pub decimal_is : (n : ℕ) → n ≤ 128 → is_decimal (decimal n) ≡ true
decimal_is zero h = ap is_decimal ((spells zero (small zero h)).at_zero refl)
decimal_is (suc n) h = positive_decimal (decimal (suc n)) (decimal_positive (suc n) h (omega arith))
