-- The laws of words.
use Rattle.std.specs.Prelude.{◌≡◌, ℕ, zero, suc, ◌+◌, ◌-◌, ◌*◌, ◌%◌, ◌/◌, ◌^◌, ◌<◌, ◌≤◌, Bool, true, false, cond, nat_lt, ℤ, pos, negsuc, ◌+ℤ◌, ◌-ℤ◌, ◌*ℤ◌, neg_ℤ, unsigned_abs, bit_and, bit_or, bit_xor}
use Rattle.std.proofs.Common.{refl, sym, ◌∙◌, ap, arith, pow-suc}
use Rattle.std.proofs.lemmas.Int.{int_rem_euclid_is, ints}
use Rattle.std.proofs.lemmas.Nat.{pow_pos, div-add-mod', pow-add, and_mod, or_mod, and_comm, and-not, or_lt, xor_lt, and_le_l, and_shr, mod_low}
use lib.Bits.{or_add_and, xor_add_and}
use lib.IntN.{+ℤ_comm, *ℤ_comm}
use Rattle.std.proofs.Math.Nat.{mod-lt, mul-le-mul_left, mul-le-mul_right, mod-eq_of_lt, add-mul}
use Rattle.std.specs.Int.{int_rem_euclid}
use borrow.Author.Differences.{up, down, sum_is_lem, neg_is, product_is}
use Rattle.scc_bits_kinds.specs.Numbers.{low, reading, Holds, both, either, differing}

pub low_less : (w : ℕ) (z : ℤ) → low w z < 2 ^ w
low_less w (pos n) = mod-lt n (pow_pos w)
low_less w (negsuc n) = omega (arith, pow_pos w)

low_rem : (w : ℕ) (z : ℤ) → low w z ≡ unsigned_abs (int_rem_euclid z (pos (2 ^ w)))
low_rem w (pos n) = refl
low_rem w (negsuc n) = refl

-- a and b differ by a multiple of 2 ^ w
pub low_same : (w : ℕ) (a b : ℤ) (j k : ℕ) → up a + j * 2 ^ w + down b ≡ up b + k * 2 ^ w + down a → low w a ≡ low w b
low_same w a b j k e =
    let m = 2 ^ w in
    let some = pow_pos w in
    let t = down a + down b in
    let far : t * 1 ≤ t * m = mul-le-mul_left t some in
    let n = up a + (j + t) * m - down a in
    let from : (z : ℤ) (i : ℕ) → z +ℤ pos ((i + t) * m) ≡ pos n → low w z ≡ n % m = λ z i h. low_rem w z ∙ ap unsigned_abs (int_rem_euclid_is z (pos m) m (i + t) n some refl h) in
    from a j (omega (arith, ints)) ∙ sym (from b k (omega (arith, ints)))

-- z and its word differ by a multiple of 2 ^ w
pub low_left : (w : ℕ) (z : ℤ) → (j : ℕ) × (k : ℕ) × (low w z + j * 2 ^ w + down z ≡ up z + k * 2 ^ w)
low_left w (pos n) = (n / 2 ^ w, 0, omega (arith, div-add-mod' n (2 ^ w)))
low_left w (negsuc n) = (0, n / 2 ^ w + 1, omega (arith, div-add-mod' n (2 ^ w), mod-lt n (pow_pos w)))

pub low_add : (w : ℕ) (a b : ℤ) → low w (pos (low w a) +ℤ b) ≡ low w (a +ℤ b)
low_add w a b = let l = low_left w a in low_same w (pos (low w a) +ℤ b) (a +ℤ b) l.0 l.1 (omega (arith, sum_is_lem, l.2))

pub low_neg : (w : ℕ) (a : ℤ) → low w (neg_ℤ (pos (low w a))) ≡ low w (neg_ℤ a)
low_neg w a = let l = low_left w a in low_same w (neg_ℤ (pos (low w a))) (neg_ℤ a) l.1 l.0 (omega (arith, neg_is, l.2))

pub low_mul : (w : ℕ) (a b : ℤ) → low w (pos (low w a) *ℤ b) ≡ low w (a *ℤ b)
low_mul w a b =
    let l = low_left w a in
    let above = ap (λ x. x * up b) l.2 in
    let below = ap (λ x. x * down b) l.2 in
    low_same w (pos (low w a) *ℤ b) (a *ℤ b) (l.0 * up b + l.1 * down b) (l.1 * up b + l.0 * down b) (omega (arith, product_is))

pub low_word : (w : ℕ) (x : ℕ) → x < 2 ^ w → low w (pos x) ≡ x
low_word w x h = mod-eq_of_lt h

pub even : (w : ℕ) → 1 ≤ w → (h : ℕ) × (2 ^ w ≡ 2 * h) × (1 ≤ h)
even (suc w) p = (2 ^ w, pow-suc 2 w ∙ omega arith, pow_pos w)
even zero p = absurd (omega arith)

-- a number that the form holds is read back from its word
pub read_low : (s : Bool) (w : ℕ) (z : ℤ) → 1 ≤ w → Holds s w z → reading s w (low w z) ≡ z
read_low false w (pos n) p h = ap pos (mod-eq_of_lt h)
read_low false w (negsuc n) p h = absurd h
read_low true w (pos n) p h =
    let is : n % 2 ^ w ≡ n = mod-eq_of_lt (omega arith) in
    let e = even w p in
    grind arith
read_low true w (negsuc n) p h =
    let is : n % 2 ^ w ≡ n = mod-eq_of_lt (omega arith) in
    let e = even w p in
    grind arith

pub low_reading : (s : Bool) (w x : ℕ) → x < 2 ^ w → low w (reading s w x) ≡ x
low_reading false w x h = mod-eq_of_lt h
low_reading true w x h = by (nat_lt (2 * x) (2 ^ w))
  where
    by : (t : Bool) → low w (cond t (pos x) (negsuc (2 ^ w - 1 - x))) ≡ x
    by true = mod-eq_of_lt h
    by false = let is : (2 ^ w - 1 - x) % 2 ^ w ≡ 2 ^ w - 1 - x = mod-eq_of_lt (omega arith) in omega arith

pub holds_reading : (s : Bool) (w x : ℕ) → 1 ≤ w → x < 2 ^ w → Holds s w (reading s w x)
holds_reading false w x p h = h
holds_reading true w x p h = by (nat_lt (2 * x) (2 ^ w)) refl
  where
    by : (t : Bool) → nat_lt (2 * x) (2 ^ w) ≡ t → Holds true w (cond t (pos x) (negsuc (2 ^ w - 1 - x)))
    by true e = grind arith
    by false e = let k : 2 ^ w ≤ 2 * x = grind arith in let v = even w p in omega arith

-- fewer low bits of the low bits
pub low_low : (w v : ℕ) (z : ℤ) → w ≤ v → low w (pos (low v z)) ≡ low w z
low_low w v z p =
    let l = low_left v z in
    let d : 2 ^ v ≡ 2 ^ w * 2 ^ (v - w) = ap (λ n. 2 ^ n) (omega arith) ∙ pow-add 2 w (v - w) in
    let up_times : l.0 * 2 ^ v ≡ l.0 * 2 ^ (v - w) * 2 ^ w = ap (λ n. l.0 * n) d ∙ omega arith in
    let down_times : l.1 * 2 ^ v ≡ l.1 * 2 ^ (v - w) * 2 ^ w = ap (λ n. l.1 * n) d ∙ omega arith in
    low_same w (pos (low v z)) z (l.0 * 2 ^ (v - w)) (l.1 * 2 ^ (v - w)) (omega (arith, l.2))

-- a without the bits of b
apart : (w a b : ℕ) → (a - bit_and a b) % 2 ^ w ≡ bit_and (a % 2 ^ w) (2 ^ w - 1 - b % 2 ^ w)
apart w a b =
    let m = 2 ^ w in
    let x = a % m in
    let y = b % m in
    let p = mod-lt a (pow_pos w) in
    let q = mod-lt b (pow_pos w) in
    let c = bit_and a b in
    let low_c : c % m ≡ bit_and x y = and_mod a b w in
    let high_c : c / m ≤ a / m = rw (and_shr a b w) (and_le_l (a / m) (b / m)) in
    let times : c / m * m ≤ a / m * m = mul-le-mul_right m high_c in
    let split : (a / m - c / m) * m + c / m * m ≡ a / m * m = sym (add-mul (a / m - c / m) (c / m) m) ∙ ap (λ n. n * m) (omega arith) in
    let is : a - c ≡ (a / m - c / m) * m + (x - bit_and x y) = omega (arith, div-add-mod' a m, div-add-mod' c m, and_le_l x y) in
    ap (λ n. n % m) is ∙ mod_low (a / m - c / m) w (x - bit_and x y) (omega arith) ∙ omega (arith, and-not w y x q p, and_comm x y, and_comm x (m - 1 - y))

-- the low bits of what both numbers have
pub low_both : (w : ℕ) (a b : ℤ) → low w (both a b) ≡ bit_and (low w a) (low w b)
low_both w (pos a) (pos b) = and_mod a b w
low_both w (pos a) (negsuc b) = apart w a b
low_both w (negsuc a) (pos b) = apart w b a ∙ and_comm _ _
low_both w (negsuc a) (negsuc b) =
    let m = 2 ^ w in
    let x = a % m in
    let y = b % m in
    let p = mod-lt a (pow_pos w) in
    let q = mod-lt b (pow_pos w) in
    omega (arith, or_mod a b w, or_add_and x y, and-not w x (m - 1 - y) p (omega arith), and-not w y x q p, and_comm x y, and_comm x (m - 1 - y), or_lt w x y p q, and_le_l x y)

-- the same on both sides
pub low_sum : (w : ℕ) (a b : ℤ) → low w (a +ℤ b) ≡ (low w a + low w b) % 2 ^ w
low_sum w a b = sym (low_add w a b) ∙ ap (low w) (+ℤ_comm (pos (low w a)) b) ∙ sym (low_add w b (pos (low w a))) ∙ ap (λ n. n % 2 ^ w) (omega arith)

pub low_product : (w : ℕ) (a b : ℤ) → low w (a *ℤ b) ≡ (low w a * low w b) % 2 ^ w
low_product w a b = sym (low_mul w a b) ∙ ap (low w) (*ℤ_comm (pos (low w a)) b) ∙ sym (low_mul w b (pos (low w a))) ∙ ap (λ n. n % 2 ^ w) (omega arith)

pub low_difference : (w : ℕ) (a b : ℤ) → low w (a -ℤ b) ≡ (low w a + (2 ^ w - low w b)) % 2 ^ w
low_difference w a b =
    let l = low_left w a in
    let k = low_left w b in
    let q = low_less w b in
    sym (low_same w (pos (low w a + (2 ^ w - low w b))) (a -ℤ b) (l.0 + k.1) (l.1 + k.0 + 1) (omega (arith, sum_is_lem, neg_is, l.2, k.2)))

pub low_either : (w : ℕ) (a b : ℤ) → low w (either a b) ≡ bit_or (low w a) (low w b)
low_either w a b =
    let x = low w a in
    let y = low w b in
    let m = 2 ^ w in
    let small = or_lt w x y (low_less w a) (low_less w b) in
    let sum = or_add_and x y in
    let l = low_left w (a +ℤ b) in
    let p = low_left w a in
    let q = low_left w b in
    let r = low_left w (both a b) in
    let t : low w (both a b) ≡ bit_and x y = low_both w a b in
    low_same w (either a b) (pos (bit_or x y)) (p.1 + q.1 + r.0) (p.0 + q.0 + r.1) (omega (arith, sum_is_lem, neg_is, p.2, q.2, r.2, sum, t)) ∙ mod-eq_of_lt small

pub low_differing : (w : ℕ) (a b : ℤ) → low w (differing a b) ≡ bit_xor (low w a) (low w b)
low_differing w a b =
    let x = low w a in
    let y = low w b in
    let small = xor_lt w x y (low_less w a) (low_less w b) in
    let one = or_add_and x y in
    let two = xor_add_and x y in
    let q = low_left w (either a b) in
    let r = low_left w (both a b) in
    let s : low w (either a b) ≡ bit_or x y = low_either w a b in
    let t : low w (both a b) ≡ bit_and x y = low_both w a b in
    low_same w (differing a b) (pos (bit_xor x y)) (q.1 + r.0) (q.0 + r.1) (omega (arith, sum_is_lem, neg_is, q.2, r.2, s, t, one, two)) ∙ mod-eq_of_lt small
