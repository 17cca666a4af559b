-- A word with another bit, by masks and shifts.
use Rattle.std.specs.Prelude.{pos, negsuc, neg_ℤ, ◌-ℤ◌, ◌*ℤ◌, bit_and, bit_or}
use Rattle.std.proofs.Common.{◌≡◌, ◌<◌, ◌^◌, ◌*◌, ◌+◌, ◌-◌, ◌/◌, ◌%◌, ℕ, zero, suc, refl, sym, ap, ◌∙◌, arith}
use Rattle.std.proofs.Math.Nat.{mod-lt, mod-eq_of_lt}
use Rattle.std.proofs.lemmas.Int.{ints}
use Rattle.std.proofs.lemmas.Nat.{pow_pos, pow-add, div-add-mod', div-mul-add, and-not, and_comm, or_disjoint, pow_below}
use Rattle.std.proofs.lemmas.Nat.Bits.{and_pow}
use Rattle.std.specs.Int.Bits.{and_zero_r}
use Rattle.scc_bits_kinds.specs.Numbers.{low, both, either}
use Rattle.scc_bits_kinds.specs.Bits.{replaced}
use Rattle.scc_bits_kinds.proofs.Low.{low_word, low_both, low_either}

-- a word by a bit, what stands above it and what below
record Cut (old i : ℕ) : Type 0 where
  high : ℕ
  bit : ℕ
  rest : ℕ
  small : bit < 2
  below : rest < 2 ^ i
  is_bit : old / 2 ^ i % 2 ≡ bit
  is_rest : old % 2 ^ i ≡ rest
  is_high : old / 2 ^ (i + 1) ≡ high
  is : old ≡ (high * 2 + bit) * 2 ^ i + rest

cut : (old i : ℕ) → Cut old i
cut old i =
    let q = old / 2 ^ i in
    let two : q / 2 * 2 + q % 2 ≡ q = div-add-mod' q 2 in
    let whole : old / 2 ^ i * 2 ^ i + old % 2 ^ i ≡ old = div-add-mod' old (2 ^ i) in
    let bit : old / 2 ^ i % 2 < 2 = mod-lt (old / 2 ^ i) (omega arith) in
    let rest : old % 2 ^ i < 2 ^ i = mod-lt old (pow_pos i) in
    let is : old ≡ (q / 2 * 2 + q % 2) * 2 ^ i + old % 2 ^ i = sym whole ∙ ap (λ z. z * 2 ^ i + old % 2 ^ i) (sym two) in
    let power : 2 ^ (i + 1) ≡ 2 ^ i * 2 = pow-add 2 i 1 in
    let split : old ≡ q / 2 * 2 ^ (i + 1) + (q % 2 * 2 ^ i + old % 2 ^ i) = is ∙ omega (arith, ap (λ z. q / 2 * z) power) in
    let less : q % 2 * 2 ^ i + old % 2 ^ i < 2 ^ (i + 1) = one_of (q % 2) bit (old % 2 ^ i) rest power in
    record {
      high = q / 2;
      bit = q % 2;
      rest = old % 2 ^ i;
      small = bit;
      below = rest;
      is_bit = refl;
      is_rest = refl;
      is_high = ap (λ z. z / 2 ^ (i + 1)) split ∙ div-mul-add (q / 2) (2 ^ (i + 1)) (q % 2 * 2 ^ i + old % 2 ^ i) less;
      is = is;
    }
  where
    one_of : (b : ℕ) → b < 2 → (r : ℕ) → r < 2 ^ i → 2 ^ (i + 1) ≡ 2 ^ i * 2 → b * 2 ^ i + r < 2 ^ (i + 1)
    one_of zero l r h e = omega (arith, h, e)
    one_of (suc zero) l r h e = omega (arith, h, e)
    one_of (suc (suc b)) l r h e = absurd (omega (arith, l))

-- the bit is taken out
taken-out : (w old i : ℕ) → old < 2 ^ w → i < w → bit_and old (2 ^ w - 1 - 2 ^ i) ≡ old / 2 ^ (i + 1) * 2 ^ (i + 1) + old % 2 ^ i
taken-out w old i l o =
    let c = cut old i in
    let mask : 2 ^ i < 2 ^ w = pow_below i w o in
    let split : bit_and (2 ^ w - 1 - 2 ^ i) old + bit_and (2 ^ i) old ≡ old = and-not w (2 ^ i) old mask l in
    let one : bit_and (2 ^ i) old ≡ c.bit * 2 ^ i = and_comm (2 ^ i) old ∙ and_pow old i ∙ ap (λ z. z * 2 ^ i) c.is_bit in
    let power : 2 ^ (i + 1) ≡ 2 ^ i * 2 = pow-add 2 i 1 in
    let is : old ≡ c.high * 2 ^ (i + 1) + c.bit * 2 ^ i + c.rest = c.is ∙ omega (arith, ap (λ z. c.high * z) power) in
    and_comm old (2 ^ w - 1 - 2 ^ i) ∙ cancel (bit_and (2 ^ w - 1 - 2 ^ i) old) (c.bit * 2 ^ i) (c.high * 2 ^ (i + 1)) c.rest old (ap (λ z. bit_and (2 ^ w - 1 - 2 ^ i) old + z) (sym one) ∙ split) is
    ∙ (λ j. sym c.is_high j * 2 ^ (i + 1) + sym c.is_rest j)
  where
    cancel : (a b h r old : ℕ) → a + b ≡ old → old ≡ h + b + r → a ≡ h + r
    cancel a b h r old e f = omega (arith, e, f)

-- another one is put there
put-there : (h r y i : ℕ) → r < 2 ^ i → y < 2 → bit_or (h * 2 ^ (i + 1) + r) (y * 2 ^ i) ≡ h * 2 ^ (i + 1) + r + y * 2 ^ i
put-there h r zero i l o = or_disjoint (h * 2 ^ (i + 1) + r) (0 * 2 ^ i) (ap (bit_and (h * 2 ^ (i + 1) + r)) (omega arith) ∙ and_zero_r (h * 2 ^ (i + 1) + r))
put-there h r (suc zero) i l o =
    let power : 2 ^ (i + 1) ≡ 2 ^ i * 2 = pow-add 2 i 1 in
    let moved : h * 2 ^ (i + 1) + r ≡ h * 2 * 2 ^ i + r = omega (arith, ap (λ z. h * z) power) in
    let q : (h * 2 ^ (i + 1) + r) / 2 ^ i ≡ h * 2 = ap (λ z. z / 2 ^ i) moved ∙ div-mul-add (h * 2) (2 ^ i) r l in
    let none : (h * 2 ^ (i + 1) + r) / 2 ^ i % 2 ≡ 0 = ap (λ z. z % 2) q ∙ omega arith in
    let one : 1 * 2 ^ i ≡ 2 ^ i = omega arith in
    let apart : bit_and (h * 2 ^ (i + 1) + r) (1 * 2 ^ i) ≡ 0 = ap (bit_and (h * 2 ^ (i + 1) + r)) one ∙ and_pow (h * 2 ^ (i + 1) + r) i ∙ ap (λ z. z * 2 ^ i) none ∙ omega arith in
    or_disjoint (h * 2 ^ (i + 1) + r) (1 * 2 ^ i) apart
put-there h r (suc (suc y)) i l o = absurd (omega (arith, o))

pub replaced-by-masks : (w old i y : ℕ) → old < 2 ^ w → i < w → y < 2 → bit_or (bit_and old (2 ^ w - 1 - 2 ^ i)) (y * 2 ^ i) ≡ replaced i i old y
replaced-by-masks w old i y l o small =
    ap (λ z. bit_or z (y * 2 ^ i)) (taken-out w old i l o) ∙ put-there (old / 2 ^ (i + 1)) (old % 2 ^ i) y i (mod-lt old (pow_pos i)) small ∙ omega arith

-- the same in words of so many bits
pub shifted-one : (w i y : ℕ) → i < w → y < 2 → low w (pos y *ℤ pos (2 ^ i)) ≡ y * 2 ^ i
shifted-one w i y o small =
    let mask : 2 ^ i < 2 ^ w = pow_below i w o in
    let e : pos y *ℤ pos (2 ^ i) ≡ pos (y * 2 ^ i) = first_of (cc, omega (arith, ints), grind (arith, ints)) in
    ap (low w) e ∙ low_word w (y * 2 ^ i) (by y small mask)
  where
    by : (y : ℕ) → y < 2 → 2 ^ i < 2 ^ w → y * 2 ^ i < 2 ^ w
    by zero l m = omega (arith, m)
    by (suc zero) l m = omega (arith, m)
    by (suc (suc y)) l m = absurd (omega (arith, l))

pub inverted : (w n : ℕ) → n < 2 ^ w → low w (neg_ℤ (pos n) -ℤ pos 1) ≡ 2 ^ w - 1 - n
inverted w n l = let e : neg_ℤ (pos n) -ℤ pos 1 ≡ negsuc n = omega (arith, ints) in ap (low w) e ∙ ap (λ z. 2 ^ w - 1 - z) (mod-eq_of_lt l)

pub and-words : (w a b : ℕ) → a < 2 ^ w → b < 2 ^ w → low w (both (pos a) (pos b)) ≡ bit_and a b
and-words w a b l h = low_both w (pos a) (pos b) ∙ (λ i. bit_and (low_word w a l i) (low_word w b h i))

pub or-words : (w a b : ℕ) → a < 2 ^ w → b < 2 ^ w → low w (either (pos a) (pos b)) ≡ bit_or a b
or-words w a b l h = low_either w (pos a) (pos b) ∙ (λ i. bit_or (low_word w a l i) (low_word w b h i))
