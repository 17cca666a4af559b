-- From words of kinds to words of 128 bits and back.
use Rattle.std.specs.Prelude.{◌≡◌, ℕ, zero, suc, ◌%◌, ◌^◌, ◌<◌, ◌≤◌, Bool, true, false, ℤ, pos}
use Rattle.std.proofs.Common.{refl, sym, ◌∙◌, ap, arith}
use Rattle.std.proofs.lemmas.Nat.{pow_pos}
use Rattle.scc_bits_kinds.specs.declared.op.Op.{Op}
use Rattle.scc_bits_kinds.specs.declared.op.Op.TheVariants as op
use Rattle.scc_bits_kinds.specs.Numbers.{low, reading}
use Rattle.scc_bits_kinds.specs.Operators.{exact, Divisor}
use Rattle.scc_bits_kinds.proofs.Low.{low_reading, low_low, low_word}

pub cut_exact : (o : Op) (v w r : ℕ) (a b x y : ℤ) → w ≤ 128 → r ≡ low 128 (exact o v a b) → a ≡ x → b ≡ y → r % 2 ^ w ≡ low w (exact o v x y)
cut_exact o v w r a b x y p e f g = ap (λ n. n % 2 ^ w) e ∙ low_low w 128 (exact o v a b) p ∙ (λ i. low w (exact o v (f i) (g i)))

not_zero : (t : Bool) (w b y : ℕ) → reading t 128 b ≡ reading t w y → y < 2 ^ w → 0 < y → 0 < b
not_zero t w zero y e h p = absurd (zero_low t w y e h p)
  where
    zero_low : (t : Bool) (w y : ℕ) → reading t 128 0 ≡ reading t w y → y < 2 ^ w → 0 < y → ⊥
    zero_low t w y e h p =
        let is : y ≡ 0 = sym (low_reading t w y h) ∙ ap (low w) (sym e ∙ none t) ∙ low_word w 0 (pow_pos w) in
        omega arith
      where
        none : (t : Bool) → reading t 128 0 ≡ pos 0
        none true = refl
        none false = refl
not_zero t w (suc b) y e h p = omega arith

pub divisor_extended : (o : Op) (t : Bool) (w b y : ℕ) → Divisor o y → reading t 128 b ≡ reading t w y → y < 2 ^ w → Divisor o b
divisor_extended op.Div t w b y m e h = not_zero t w b y e h m
divisor_extended op.Rem t w b y m e h = not_zero t w b y e h m
divisor_extended _ t w b y m e h = tt

-- a number that is not 0 is none in at least as many bits
pub not_lost : (s : Bool) (w v y : ℕ) → w ≤ v → y < 2 ^ w → 0 < y → 0 < low v (reading s w y)
not_lost s w v y p h o = by (low v (reading s w y)) refl
  where
    by : (n : ℕ) → low v (reading s w y) ≡ n → 0 < n
    by (suc n) e = omega arith
    by zero e =
        let is : y ≡ 0 = sym (low_reading s w y h) ∙ sym (low_low w v (reading s w y) p) ∙ ap (λ n. low w (pos n)) e ∙ low_word w 0 (pow_pos w) in
        omega arith
