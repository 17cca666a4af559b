-- Operators whose low bits depend on low bits alone, and numbers that a kind holds.
use Rattle.std.specs.Prelude.{◌≡◌, ℕ, ◌+◌, ◌-◌, ◌*◌, ◌%◌, ◌^◌, ◌≤◌, Bool, true, false, not, ◌&&◌, if◌then◌else◌, ℤ, pos, negsuc, neg_ℤ, bit_and, bit_or, bit_xor}
use Rattle.std.proofs.Common.{refl, sym, ◌∙◌, ap, arith, pow-suc}
use Rattle.std.proofs.Math.Nat.{pow-le-pow_right}
use Rattle.scc_bits_kinds.specs.declared.op.Op.{Op}
use Rattle.scc_bits_kinds.specs.declared.op.Op.TheVariants as op
use Rattle.scc_bits_kinds.specs.Numbers.{low, reading, Holds}
use Rattle.scc_bits_kinds.specs.Operators.{exact}
use Rattle.scc_bits_kinds.proofs.Low.{low_less, low_word, low_reading, low_neg, low_sum, low_difference, low_product, low_both, low_either, low_differing}

-- the low n bits of the operator's number are those of its number for the low n bits of both operands
abbrev pub IsLow : Op → Type 0
IsLow o = (v w n : ℕ) (a b : ℤ) → low n (exact o v (pos (low n a)) (pos (low n b))) ≡ low n (exact o w a b)

pub low_only_add : IsLow op.Add
low_only_add v w n a b = low_sum n (pos (low n a)) (pos (low n b)) ∙ (λ i. (low_word n (low n a) (low_less n a) i + low_word n (low n b) (low_less n b) i) % 2 ^ n) ∙ sym (low_sum n a b)

pub low_only_sub : IsLow op.Sub
low_only_sub v w n a b = low_difference n (pos (low n a)) (pos (low n b)) ∙ (λ i. (low_word n (low n a) (low_less n a) i + (2 ^ n - low_word n (low n b) (low_less n b) i)) % 2 ^ n) ∙ sym (low_difference n a b)

pub low_only_mul : IsLow op.Mul
low_only_mul v w n a b = low_product n (pos (low n a)) (pos (low n b)) ∙ (λ i. (low_word n (low n a) (low_less n a) i * low_word n (low n b) (low_less n b) i) % 2 ^ n) ∙ sym (low_product n a b)

pub low_only_and : IsLow op.And
low_only_and v w n a b = low_both n (pos (low n a)) (pos (low n b)) ∙ (λ i. bit_and (low_word n (low n a) (low_less n a) i) (low_word n (low n b) (low_less n b) i)) ∙ sym (low_both n a b)

pub low_only_or : IsLow op.Or
low_only_or v w n a b = low_either n (pos (low n a)) (pos (low n b)) ∙ (λ i. bit_or (low_word n (low n a) (low_less n a) i) (low_word n (low n b) (low_less n b) i)) ∙ sym (low_either n a b)

pub low_only_xor : IsLow op.Xor
low_only_xor v w n a b = low_differing n (pos (low n a)) (pos (low n b)) ∙ (λ i. bit_xor (low_word n (low n a) (low_less n a) i) (low_word n (low n b) (low_less n b) i)) ∙ sym (low_differing n a b)

pub low_only_plus : IsLow op.Plus
low_only_plus v w n a b = low_word n (low n a) (low_less n a)

pub low_only_neg : IsLow op.Neg
low_only_neg v w n a b = low_neg n a

pub low_only_not : IsLow op.Not
low_only_not v w n a b = low_difference n (neg_ℤ (pos (low n a))) (pos 1) ∙ ap (λ k. (k + (2 ^ n - low n (pos 1))) % 2 ^ n) (low_neg n a) ∙ sym (low_difference n (neg_ℤ a) (pos 1))

-- so operands may first be converted to the answer's form
pub low_forms : (o : Op) → IsLow o → (v w n : ℕ) (s t : Bool) (a b : ℤ) → low n (exact o v (reading s n (low n a)) (reading t n (low n b))) ≡ low n (exact o w a b)
low_forms o f v w n s t a b =
    sym (f v v n (reading s n (low n a)) (reading t n (low n b))) ∙ (λ i. low n (exact o v (pos (low_reading s n (low n a) (low_less n a) i)) (pos (low_reading t n (low n b) (low_less n b) i)))) ∙ f v w n a b

-- more bits hold what fewer do, and one more of a signed form what an unsigned one does
pub holds_more : (s t : Bool) (c w : ℕ) (z : ℤ) → c + (if t && not s then 1 else 0) ≤ w → (s ≡ true → t ≡ true) → Holds s c z → Holds t w z
holds_more false false c w (pos n) p e h = let d : 2 ^ c ≤ 2 ^ w = pow-le-pow_right {n = 2} (omega arith) (omega arith) in omega arith
holds_more false false c w (negsuc n) p e h = h
holds_more false true c w (pos n) p e h =
    let d : 2 ^ (c + 1) ≤ 2 ^ w = pow-le-pow_right {n = 2} (omega arith) p in
    let m : 2 ^ (c + 1) ≡ 2 * 2 ^ c = ap (λ k. 2 ^ k) (omega arith) ∙ pow-suc 2 c ∙ omega arith in
    omega arith
holds_more false true c w (negsuc n) p e h = absurd h
holds_more true true c w (pos n) p e h = let d : 2 ^ c ≤ 2 ^ w = pow-le-pow_right {n = 2} (omega arith) (omega arith) in omega arith
holds_more true true c w (negsuc n) p e h = let d : 2 ^ c ≤ 2 ^ w = pow-le-pow_right {n = 2} (omega arith) (omega arith) in omega arith
holds_more true false c w z p e h = absurd (grind (arith, e refl))
