-- Bits of words.
use Rattle.std.specs.Prelude.{◌≡◌, ℕ, ◌+◌, ◌-◌, ◌*◌, ◌/◌, ◌%◌, ◌^◌, ◌<◌, ◌≤◌}
use Rattle.std.proofs.Common.{◌∙◌, ap, subst, arith}
use Rattle.std.proofs.lemmas.Nat.{pow_pos, pow-add, shr_split, mod-pow-add}
use Rattle.std.proofs.Math.Nat.{mod-lt, mod-eq_of_lt, div-lt_iff_lt-mul, pow-le-pow_right, mul-le-mul_right}
use Rattle.scc_bits_kinds.specs.declared.kind.Kind.{Kind}
use Rattle.scc_bits_kinds.specs.Kinds.{IsValid, width_of}
use Rattle.scc_bits_kinds.specs.Bits.{part, replaced, joined}
use Rattle.scc_bits.proofs.Validity.{width_valid as valid_width}

pub width_valid : (k : Kind) → IsValid k → width_of k ≤ 128
width_valid k v = (valid_width k v).1

-- a word in three pieces
pieces : (h l x : ℕ) → l ≤ h → x ≡ x / 2 ^ (h + 1) * 2 ^ (h + 1) + part h l x * 2 ^ l + x % 2 ^ l
pieces h l x p =
    let e : h + 1 ≡ (h - l + 1) + l = omega arith in
    let m : x % 2 ^ (h + 1) ≡ part h l x * 2 ^ l + x % 2 ^ l = ap (λ n. x % 2 ^ n) e ∙ mod-pow-add x (h - l + 1) l in
    omega (arith, shr_split x (h + 1))

-- so many bits put at l stay below the bit after h
below : (h l y : ℕ) → l ≤ h → y < 2 ^ (h - l + 1) → y * 2 ^ l + 2 ^ l ≤ 2 ^ (h + 1)
below h l y p q =
    let e : h + 1 ≡ (h - l + 1) + l = omega arith in
    let d : 2 ^ (h + 1) ≡ 2 ^ (h - l + 1) * 2 ^ l = ap (λ n. 2 ^ n) e ∙ pow-add 2 (h - l + 1) l in
    let m : (y + 1) * 2 ^ l ≤ 2 ^ (h - l + 1) * 2 ^ l = mul-le-mul_right (2 ^ l) (omega arith) in
    omega arith

quotient_less : (a b x : ℕ) → 0 < b → x < a * b → x / b + 1 ≤ a
quotient_less a b x o p = let q : x / b < a = (div-lt_iff_lt-mul o).1 p in omega arith

-- what is put at l isn't cut
pub put_is : (h l y : ℕ) → l ≤ h → h < 128 → y < 2 ^ (h - l + 1) → y * 2 ^ l % 2 ^ 128 ≡ y * 2 ^ l
put_is h l y p q r =
    let b = below h l y p r in
    let small : h + 1 ≤ 128 = omega arith in
    let w : 2 ^ (h + 1) ≤ 2 ^ 128 = pow-le-pow_right {n = 2} (omega arith) small in
    let some = pow_pos l in
    mod-eq_of_lt (omega arith)

pub part_within : (h l x : ℕ) → l ≤ h → part h l x * 2 ^ l ≤ x
part_within h l x p = omega (arith, pieces h l x p)

pub swapped : (h l x y : ℕ) → l ≤ h → x - part h l x * 2 ^ l + y * 2 ^ l ≡ replaced h l x y
swapped h l x y p = omega (arith, pieces h l x p)

pub replaced_fits : (w h l x y : ℕ) → l ≤ h → h < w → x < 2 ^ w → y < 2 ^ (h - l + 1) → replaced h l x y < 2 ^ w
replaced_fits w h l x y p q r t =
    let e : w ≡ (w - (h + 1)) + (h + 1) = omega arith in
    let d : 2 ^ w ≡ 2 ^ (w - (h + 1)) * 2 ^ (h + 1) = ap (λ n. 2 ^ n) e ∙ pow-add 2 (w - (h + 1)) (h + 1) in
    let top = quotient_less (2 ^ (w - (h + 1))) (2 ^ (h + 1)) x (pow_pos (h + 1)) (omega arith) in
    let m : (x / 2 ^ (h + 1) + 1) * 2 ^ (h + 1) ≤ 2 ^ (w - (h + 1)) * 2 ^ (h + 1) = mul-le-mul_right (2 ^ (h + 1)) top in
    let b = below h l y p t in
    let lo = mod-lt x (pow_pos l) in
    omega arith

pub within_128 : (w : ℕ) → w ≤ 128 → 2 ^ w ≤ 2 ^ 128
within_128 w p = pow-le-pow_right {n = 2} (omega arith) p

pub joined_fits : (v low x y : ℕ) → y < 2 ^ low → x < 2 ^ v → joined low x y < 2 ^ (v + low)
joined_fits v low x y p q =
    let m : (x + 1) * 2 ^ low ≤ 2 ^ v * 2 ^ low = mul-le-mul_right (2 ^ low) (omega arith) in
    omega (arith, pow-add 2 v low)

-- a word shifted to above the low bits of another
pub shifted : (low x : ℕ) → low ≤ 128 → x < 2 ^ (128 - low) → x * 2 ^ low % 2 ^ 128 ≡ x * 2 ^ low
shifted low x p q =
    let e : 128 ≡ (128 - low) + low = omega arith in
    let d : 2 ^ 128 ≡ 2 ^ (128 - low) * 2 ^ low = ap (λ n. 2 ^ n) e ∙ pow-add 2 (128 - low) low in
    let m : (x + 1) * 2 ^ low ≤ 2 ^ (128 - low) * 2 ^ low = mul-le-mul_right (2 ^ low) (omega arith) in
    let some = pow_pos low in
    mod-eq_of_lt (omega arith)

pub joined_word : (low x y : ℕ) → low ≤ 128 → y < 2 ^ low → x < 2 ^ (128 - low) → joined low x y < 2 ^ 128
joined_word low x y p q r =
    let e : (128 - low) + low ≡ 128 = omega arith in
    subst (λ n. joined low x y < 2 ^ n) e (joined_fits (128 - low) low x y q r)

pub wider : (w low y : ℕ) → y < 2 ^ low → y < 2 ^ (w + low)
wider w low y p = let m : 2 ^ low ≤ 2 ^ (w + low) = pow-le-pow_right {n = 2} (omega arith) (omega arith) in omega arith
