-- What code on words of 128 bits gives.
use Rattle.std.specs.Prelude.{◌≡◌, ℕ, zero, suc, ◌+◌, ◌-◌, ◌*◌, ◌%◌, ◌/◌, ◌^◌, ◌<◌, ◌≤◌, Bool, true, false, nat_eq, ℤ, pos, negsuc, ◌+ℤ◌, ◌-ℤ◌, ◌*ℤ◌, neg_ℤ, bit_and, bit_or, bit_xor}
use Rattle.std.proofs.Common.{refl, sym, ◌∙◌, ap, arith, to_z}
use Rattle.std.specs.Int.{w128}
use Rattle.std.proofs.Math.Nat.{mod-eq_of_lt, pow-le-pow_right, div-le_self, lt_of_le_of_lt, lt_of_lt_of_le, div-eq_of_lt}
use Rattle.std.proofs.lemmas.Nat.{pow-add, mod_low}
use Rattle.std.specs.Ordering.{int_eq}
use Rattle.std.proofs.lemmas.Int.{ints}
use Rattle.scc_bits_kinds.specs.Numbers.{low, reading, both, either, differing, halved}
use Rattle.scc_bits_kinds.proofs.Low.{low_neg, low_mul, low_both, low_either, low_differing, low_reading, low_low, low_sum, low_difference, low_product}

pub word_add : (s t : Bool) (a b : ℕ) → a < 2 ^ 128 → b < 2 ^ 128 → (a + b) % 2 ^ 128 ≡ low 128 (reading s 128 a +ℤ reading t 128 b)
word_add s t a b p q = sym (low_sum 128 (reading s 128 a) (reading t 128 b) ∙ (λ i. (low_reading s 128 a p i + low_reading t 128 b q i) % 2 ^ 128))

pub word_mul : (s t : Bool) (a b : ℕ) → a < 2 ^ 128 → b < 2 ^ 128 → (a * b) % 2 ^ 128 ≡ low 128 (reading s 128 a *ℤ reading t 128 b)
word_mul s t a b p q = sym (low_product 128 (reading s 128 a) (reading t 128 b) ∙ (λ i. (low_reading s 128 a p i * low_reading t 128 b q i) % 2 ^ 128))

pub word_sub : (s t : Bool) (a b : ℕ) → a < 2 ^ 128 → b < 2 ^ 128 → (a + (2 ^ 128 - b)) % 2 ^ 128 ≡ low 128 (reading s 128 a -ℤ reading t 128 b)
word_sub s t a b p q = sym (low_difference 128 (reading s 128 a) (reading t 128 b) ∙ (λ i. (low_reading s 128 a p i + (2 ^ 128 - low_reading t 128 b q i)) % 2 ^ 128))

pub word_and : (s t : Bool) (a b : ℕ) → a < 2 ^ 128 → b < 2 ^ 128 → bit_and a b ≡ low 128 (both (reading s 128 a) (reading t 128 b))
word_and s t a b p q = sym (low_both 128 (reading s 128 a) (reading t 128 b) ∙ (λ i. bit_and (low_reading s 128 a p i) (low_reading t 128 b q i)))

-- the code's signed view of a word
pub signed_reading : (a : ℕ) → a < 2 ^ 128 → to_z w128 a ≡ reading true 128 a
signed_reading a p = grind arith

pub far_right : (a b : ℕ) → a < 2 ^ 128 → 128 ≤ b → 0 ≡ a / 2 ^ b
far_right a b p q = sym (div-eq_of_lt (lt_of_lt_of_le p (pow-le-pow_right {n = 2} (omega arith) q)))

pub word_shl : (s : Bool) (a b : ℕ) → a < 2 ^ 128 → (a * 2 ^ b) % 2 ^ 128 ≡ low 128 (reading s 128 a *ℤ pos (2 ^ b))
word_shl s a b p = sym (sym (low_mul 128 (reading s 128 a) (pos (2 ^ b))) ∙ ap (λ n. low 128 (pos n *ℤ pos (2 ^ b))) (low_reading s 128 a p))

pub word_shl_far : (s : Bool) (a b : ℕ) → a < 2 ^ 128 → 128 ≤ b → 0 ≡ low 128 (reading s 128 a *ℤ pos (2 ^ b))
word_shl_far s a b p q =
    let d : a * 2 ^ b ≡ a * 2 ^ (b - 128) * 2 ^ 128 + 0 = ap (λ n. a * 2 ^ n) (omega arith) ∙ ap (λ n. a * n) (pow-add 2 (b - 128) 128) ∙ omega arith in
    sym (ap (λ n. n % 2 ^ 128) d ∙ mod_low (a * 2 ^ (b - 128)) 128 0 (omega arith)) ∙ word_shl s a b p

pub word_shr : (s : Bool) (a b r : ℕ) → a < 2 ^ 128 → (s ≡ true → 2 * a < 2 ^ 128) → r ≡ a / 2 ^ b → r ≡ low 128 (halved (reading s 128 a) b)
word_shr s a b r p h e =
    let is : reading s 128 a ≡ pos a = whole s h in
    e ∙ sym (mod-eq_of_lt (lt_of_le_of_lt (div-le_self a (2 ^ b)) p)) ∙ ap (λ z. low 128 (halved z b)) (sym is)
  where
    whole : (s : Bool) → (s ≡ true → 2 * a < 2 ^ 128) → reading s 128 a ≡ pos a
    whole false h = refl
    whole true h = let k = h refl in grind arith

pub word_shr_negative : (s : Bool) (a b r : ℕ) → s ≡ true → a < 2 ^ 128 → 2 ^ 128 ≤ 2 * a → r ≡ (2 ^ 128 - 1 - a) / 2 ^ b → 2 ^ 128 - 1 - r ≡ low 128 (halved (reading s 128 a) b)
word_shr_negative false a b r t p h e = absurd (grind arith)
word_shr_negative true a b r t p h e =
    let is : reading true 128 a ≡ negsuc (2 ^ 128 - 1 - a) = grind arith in
    ap (λ n. 2 ^ 128 - 1 - n) (e ∙ sym (mod-eq_of_lt (lt_of_le_of_lt (div-le_self (2 ^ 128 - 1 - a) (2 ^ b)) (omega arith)))) ∙ ap (λ z. low 128 (halved z b)) (sym is)

pub word_neg : (s : Bool) (a : ℕ) → a < 2 ^ 128 → (2 ^ 128 - a) % 2 ^ 128 ≡ low 128 (neg_ℤ (reading s 128 a))
word_neg s a p = sym (sym (low_neg 128 (reading s 128 a)) ∙ ap (λ n. low 128 (neg_ℤ (pos n))) (low_reading s 128 a p) ∙ plain a p)
  where
    plain : (a : ℕ) → a < 2 ^ 128 → low 128 (neg_ℤ (pos a)) ≡ (2 ^ 128 - a) % 2 ^ 128
    plain zero p = omega arith
    plain (suc n) p = omega arith

pub word_not : (s : Bool) (a : ℕ) → a < 2 ^ 128 → 2 ^ 128 - 1 - a ≡ low 128 (neg_ℤ (reading s 128 a) -ℤ pos 1)
word_not s a p = sym (low_difference 128 (neg_ℤ (reading s 128 a)) (pos 1) ∙ ap (λ n. (n + (2 ^ 128 - 1)) % 2 ^ 128) (sym (word_neg s a p)) ∙ omega arith)

pub same_numbers : (s : Bool) (a b : ℕ) → a < 2 ^ 128 → b < 2 ^ 128 → nat_eq a b ≡ int_eq (reading s 128 a) (reading s 128 b)
same_numbers s a b p q = test a b (reading s 128 a) (reading s 128 b) (ap (reading s 128)) (λ e. sym (low_reading s 128 a p) ∙ ap (low 128) e ∙ low_reading s 128 b q)
  where
    test : (m n : ℕ) (y z : ℤ) → (m ≡ n → y ≡ z) → (y ≡ z → m ≡ n) → nat_eq m n ≡ int_eq y z
    test m n y z f g = grind (arith, ints)

pub word_or : (s t : Bool) (a b : ℕ) → a < 2 ^ 128 → b < 2 ^ 128 → bit_or a b ≡ low 128 (either (reading s 128 a) (reading t 128 b))
word_or s t a b p q = sym (low_either 128 (reading s 128 a) (reading t 128 b) ∙ (λ i. bit_or (low_reading s 128 a p i) (low_reading t 128 b q i)))

pub word_xor : (s t : Bool) (a b : ℕ) → a < 2 ^ 128 → b < 2 ^ 128 → bit_xor a b ≡ low 128 (differing (reading s 128 a) (reading t 128 b))
word_xor s t a b p q = sym (low_differing 128 (reading s 128 a) (reading t 128 b) ∙ (λ i. bit_xor (low_reading s 128 a p i) (low_reading t 128 b q i)))

pub word_same : (s : Bool) (a : ℕ) → a < 2 ^ 128 → a ≡ low 128 (reading s 128 a)
word_same s a p = sym (low_reading s 128 a p)

-- the bits of a word are those of its number
pub low_bits : (s : Bool) (w a : ℕ) → w ≤ 128 → a < 2 ^ 128 → a % 2 ^ w ≡ low w (reading s 128 a)
low_bits s w a p q = ap (λ n. n % 2 ^ w) (sym (low_reading s 128 a q)) ∙ low_low w 128 (reading s 128 a) p
