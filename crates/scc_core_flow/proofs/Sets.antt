-- Bits of words.
use Rattle.std.proofs.Common.{◌≡◌, ◌<◌, ◌+◌, ◌*◌, ◌%◌, ◌^◌, ℕ, zero, suc, arith, Bool, true, false, bit_and, bit_or, refl, sym, ap, ◌∙◌, max, min}
use Rattle.std.specs.Prelude.{◌||◌, ◌&&◌, not, nat_eq, ◌≢◌}
use Rattle.std.specs.Int.{bit_at}
use lib.Bits.{bit_xor}
use Rattle.std.proofs.lemmas.Bool.Decides.{nat_tests}
use Rattle.std.proofs.lemmas.Nat.Bits.{bit_at_and, bit_at_or, bit_at_xor, bit_at-lt, bit_at-zero, bit_at-pow_same, bit_at-pow_other}
use Rattle.std.proofs.Math.Nat.{mod-eq_of_lt}
use Rattle.std.proofs.Math.Pow.{pow-lt}
use Rattle.scc_core_flow.specs.Sets.{has_bit}

same_number : (a b : ℕ) → nat_eq a b ≡ true → a ≡ b
same_number a b e = grind (arith, e)

other_number : (a b : ℕ) → nat_eq a b ≡ false → a ≢ b
other_number a b e = grind (arith, nat_tests, e)

greater : (p q : ℕ) → p < 2 → q < 2 → nat_eq (max p q) 1 ≡ (nat_eq p 1 || nat_eq q 1)
greater zero zero h k = refl
greater zero (suc zero) h k = refl
greater (suc zero) zero h k = refl
greater (suc zero) (suc zero) h k = refl
greater zero (suc (suc q)) h k = absurd (omega (arith, k))
greater (suc zero) (suc (suc q)) h k = absurd (omega (arith, k))
greater (suc (suc p)) q h k = absurd (omega (arith, h))

pub or_bits : (a b i : ℕ) → has_bit (bit_or a b) i ≡ (has_bit a i || has_bit b i)
or_bits a b i = ap (λ n. nat_eq n 1) (bit_at_or a b i) ∙ greater (bit_at a i) (bit_at b i) (bit_at-lt a i) (bit_at-lt b i)

less : (p q : ℕ) → p < 2 → q < 2 → nat_eq (min p q) 1 ≡ (nat_eq p 1 && nat_eq q 1)
less zero zero h k = refl
less zero (suc zero) h k = refl
less (suc zero) zero h k = refl
less (suc zero) (suc zero) h k = refl
less zero (suc (suc q)) h k = absurd (omega (arith, k))
less (suc zero) (suc (suc q)) h k = absurd (omega (arith, k))
less (suc (suc p)) q h k = absurd (omega (arith, h))

pub and_bits : (a b i : ℕ) → has_bit (bit_and a b) i ≡ (has_bit a i && has_bit b i)
and_bits a b i = ap (λ n. nat_eq n 1) (bit_at_and a b i) ∙ less (bit_at a i) (bit_at b i) (bit_at-lt a i) (bit_at-lt b i)

one_shifted : (k : ℕ) → k < 64 → 1 * 2 ^ k % 18446744073709551616 ≡ 2 ^ k
one_shifted k h = let small : 2 ^ k < 2 ^ 64 = pow-lt h in mod-eq_of_lt {n = 1 * 2 ^ k} (omega (arith, small)) ∙ omega arith

within : (slot : ℕ) → slot % 64 < 64
within slot = omega arith

no_bit : (i : ℕ) → has_bit 0 i ≡ false
no_bit i = ap (λ n. nat_eq n 1) (bit_at-zero i)

pow_bit : (k i : ℕ) → has_bit (2 ^ k) i ≡ nat_eq i k
pow_bit k i = by (nat_eq i k) refl
  where
    by : (b : Bool) → nat_eq i k ≡ b → has_bit (2 ^ k) i ≡ nat_eq i k
    by true e = ap (λ j. has_bit (2 ^ k) j) (same_number i k e) ∙ ap (λ n. nat_eq n 1) (bit_at-pow_same k) ∙ sym e
    by false e = ap (λ n. nat_eq n 1) (bit_at-pow_other k i (other_number i k e)) ∙ sym e

swap : (a b : Bool) → (a || b) ≡ (b || a)
swap true true = refl
swap true false = refl
swap false true = refl
swap false false = refl

pub with_slot : (w slot i : ℕ) → has_bit (bit_or w (1 * 2 ^ (slot % 64) % 18446744073709551616)) i ≡ (nat_eq i (slot % 64) || has_bit w i)
with_slot w slot i =
    ap (λ n. has_bit (bit_or w n) i) (one_shifted (slot % 64) (within slot)) ∙ or_bits w (2 ^ (slot % 64)) i
    ∙ ap (λ b. has_bit w i || b) (pow_bit (slot % 64) i) ∙ swap (has_bit w i) (nat_eq i (slot % 64))

set_bit : (p : ℕ) → p < 2 → nat_eq p 1 ≡ true → nat_eq ((p + 1) % 2) 1 ≡ false
set_bit zero h e = absurd cc
set_bit (suc zero) h e = refl
set_bit (suc (suc p)) h e = absurd (omega (arith, h))

kept_bit : (p : ℕ) → p < 2 → nat_eq ((p + 0) % 2) 1 ≡ nat_eq p 1
kept_bit zero h = refl
kept_bit (suc zero) h = refl
kept_bit (suc (suc p)) h = absurd (omega (arith, h))

pub without_slot : (w slot i : ℕ) → has_bit w (slot % 64) ≡ true → has_bit (bit_xor w (1 * 2 ^ (slot % 64) % 18446744073709551616)) i ≡ (not (nat_eq i (slot % 64)) && has_bit w i)
without_slot w slot i there =
    ap (λ n. has_bit (bit_xor w n) i) (one_shifted (slot % 64) (within slot)) ∙ ap (λ n. nat_eq n 1) (bit_at_xor w (2 ^ (slot % 64)) i) ∙ by (nat_eq i (slot % 64)) refl
  where
    by : (b : Bool) → nat_eq i (slot % 64) ≡ b → nat_eq ((bit_at w i + bit_at (2 ^ (slot % 64)) i) % 2) 1 ≡ (not (nat_eq i (slot % 64)) && has_bit w i)
    by true e =
        ap (λ n. nat_eq ((bit_at w i + n) % 2) 1) (ap (λ j. bit_at (2 ^ (slot % 64)) j) (same_number i (slot % 64) e) ∙ bit_at-pow_same (slot % 64))
        ∙ set_bit (bit_at w i) (bit_at-lt w i) (ap (λ j. has_bit w j) (same_number i (slot % 64) e) ∙ there)
        ∙ ap (λ b. not b && has_bit w i) (sym e)
    by false e =
        ap (λ n. nat_eq ((bit_at w i + n) % 2) 1) (bit_at-pow_other (slot % 64) i (other_number i (slot % 64) e)) ∙ kept_bit (bit_at w i) (bit_at-lt w i)
        ∙ ap (λ b. not b && has_bit w i) (sym e)

pub without_none : (w slot i : ℕ) → has_bit w (slot % 64) ≡ false → has_bit w i ≡ (not (nat_eq i (slot % 64)) && has_bit w i)
without_none w slot i there = by (nat_eq i (slot % 64)) refl
  where
    by : (b : Bool) → nat_eq i (slot % 64) ≡ b → has_bit w i ≡ (not (nat_eq i (slot % 64)) && has_bit w i)
    by true e = ap (λ j. has_bit w j) (same_number i (slot % 64) e) ∙ there ∙ ap (λ b. not b && has_bit w i) (sym e)
    by false e = ap (λ b. not b && has_bit w i) (sym e)
