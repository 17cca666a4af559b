-- Words of 128 bits and words of fewer bits.
use Rattle.std.specs.Prelude.{◌≡◌, ℕ, zero, suc, ◌+◌, ◌-◌, ◌*◌, ◌%◌, ◌/◌, ◌^◌, ◌<◌, ◌≤◌, Bool, true, false, cond, not, nat_eq, nat_lt, ℤ, pos, negsuc, bit_and}
use Rattle.std.proofs.Common.{refl, sym, ◌∙◌, ap, arith}
use Rattle.std.proofs.Math.Nat.{pow-suc, mod-lt, mod-eq_of_lt, pow-le-pow_right}
use Rattle.std.proofs.lemmas.Nat.{pow_pos, pow-add, mod_low, and_mask, div-mul-add}
use Rattle.std.proofs.lemmas.Int.{ints}
use Rattle.scc_bits_kinds.specs.Numbers.{low, reading}
use Rattle.scc_bits_kinds.specs.Operators.{truth}
use Rattle.scc_bits_kinds.proofs.Low.{low_reading, low_low, low_word}

-- the greatest word of w bits, by a shift of that of n bits
pub mask_power : (n w : ℕ) → w ≤ n → (2 ^ n - 1) / 2 ^ (n - w) ≡ 2 ^ w - 1
mask_power n w p =
    let d = 2 ^ (n - w) in
    let some = pow_pos (n - w) in
    let sum : n ≡ w + (n - w) = omega arith in
    let whole : 2 ^ n ≡ 2 ^ w * d = ap (λ m. 2 ^ m) sum ∙ pow-add 2 w (n - w) in
    let is : 2 ^ n - 1 ≡ (2 ^ w - 1) * d + (d - 1) = less (2 ^ n) (2 ^ w) d (pow_pos w) some whole in
    ap (λ m. m / d) is ∙ div-mul-add (2 ^ w - 1) d (d - 1) (omega arith)
  where
    less : (t m d : ℕ) → 0 < m → 0 < d → t ≡ m * d → t - 1 ≡ (m - 1) * d + (d - 1)
    less t zero d p q e = absurd (omega arith)
    less t (suc m) d p q e = let l : suc m * d ≡ m * d + d = omega arith in let o : suc m - 1 ≡ m = omega arith in let k : (suc m - 1) * d ≡ m * d = ap (λ n. n * d) o in omega arith

-- a power of 2 above 64 bits
pub upper : (k n : ℕ) → 64 ≤ k → n ≡ 2 ^ (k - 64) → n * 2 ^ 64 ≡ 2 ^ k
upper k n p e = ap (λ m. m * 2 ^ 64) e ∙ sym (pow-add 2 (k - 64) 64) ∙ ap (λ m. 2 ^ m) (omega arith)

pub mask_above : (w a b m : ℕ) → 64 ≤ w → m ≡ 2 ^ (w - 64) - 1 → a ≡ m * 2 ^ 64 → b ≡ 2 ^ 64 - 1 → a + b ≡ 2 ^ w - 1
mask_above w a b m p e f g = let u = upper w (2 ^ (w - 64)) p refl in let some = pow_pos (w - 64) in omega arith

pub cut_mask : (w x m : ℕ) → m ≡ 2 ^ w - 1 → bit_and x m ≡ x % 2 ^ w
cut_mask w x m e = ap (bit_and x) e ∙ and_mask x w

pub cut_fits : (w x m : ℕ) → m ≡ 2 ^ w - 1 → bit_and x m < 2 ^ w
cut_fits w x m e = let p = mod-lt x (pow_pos w) in omega (arith, cut_mask w x m e)

doubled : (w h : ℕ) → 1 ≤ w → h ≡ 2 ^ (w - 1) → 2 ^ w ≡ 2 * h
doubled w h o d = ap (λ n. 2 ^ n) (omega arith) ∙ pow-suc 2 (w - 1) ∙ omega arith

-- the word of 128 bits that has the number of a word x of w bits: h is half of 2 ^ w, and c the low bits of x + h
pub kept_signed : (w x h c : ℕ) → 1 ≤ w → w ≤ 128 → x < 2 ^ w → h ≡ 2 ^ (w - 1) → c ≡ (x + h) % 2 ^ 128 % 2 ^ w → reading true 128 ((c + (2 ^ 128 - h)) % 2 ^ 128) ≡ reading true w x
kept_signed w x h c o p k d e =
    by (nat_lt x h) refl (doubled w h o d) (pow-le-pow_right {n = 2} (omega arith) p) (e ∙ low_low w 128 (pos (x + h)) p)
  where
    small : (x m : ℕ) → 2 * x < m → m ≤ 2 ^ 128 → reading true 128 x ≡ cond (nat_lt (2 * x) m) (pos x) (negsuc (m - 1 - x))
    small x m p q = grind arith

    large : (x m : ℕ) → x < m → m ≤ 2 * x → m ≤ 2 ^ 128 → reading true 128 (2 ^ 128 - (m - x)) ≡ cond (nat_lt (2 * x) m) (pos x) (negsuc (m - 1 - x))
    large x m p q r = grind arith

    by : (t : Bool) → nat_lt x h ≡ t → 2 ^ w ≡ 2 * h → 2 ^ w ≤ 2 ^ 128 → c ≡ (x + h) % 2 ^ w → reading true 128 ((c + (2 ^ 128 - h)) % 2 ^ 128) ≡ reading true w x
    by true l twice within whole =
        let less : x < h = grind arith in
        let is : c ≡ x + h = whole ∙ mod-eq_of_lt (omega arith) in
        let sum : c + (2 ^ 128 - h) ≡ 1 * 2 ^ 128 + x = omega arith in
        let same : (c + (2 ^ 128 - h)) % 2 ^ 128 ≡ x = ap (λ n. n % 2 ^ 128) sum ∙ mod_low 1 128 x (omega arith) in
        ap (reading true 128) same ∙ small x (2 ^ w) (omega arith) within
    by false l twice within whole =
        let more : h ≤ x = grind arith in
        let sum : x + h ≡ 1 * 2 ^ w + (x - h) = omega arith in
        let is : c ≡ x - h = whole ∙ ap (λ n. n % 2 ^ w) sum ∙ mod_low 1 w (x - h) (omega arith) in
        let down : c + (2 ^ 128 - h) ≡ 2 ^ 128 - (2 ^ w - x) = omega arith in
        let same : (c + (2 ^ 128 - h)) % 2 ^ 128 ≡ 2 ^ 128 - (2 ^ w - x) = ap (λ n. n % 2 ^ 128) down ∙ mod-eq_of_lt (omega arith) in
        ap (reading true 128) same ∙ large x (2 ^ w) k (omega arith) within

-- the low bits of the word of 128 bits
pub cut_reading : (s : Bool) (w r : ℕ) (x : ℤ) → w ≤ 128 → r < 2 ^ 128 → reading s 128 r ≡ x → r % 2 ^ w ≡ low w x
cut_reading s w r x p h e = ap (λ n. n % 2 ^ w) (sym (low_reading s 128 r h)) ∙ low_low w 128 (reading s 128 r) p ∙ ap (low w) e

other : (z : ℤ) → (z ≡ pos 0 → ⊥) → truth z ≡ true
other (pos zero) f = absurd (f refl)
other (pos (suc n)) f = grind (arith, ints)
other (negsuc n) f = grind (arith, ints)

-- a word is 0 exactly where its number is
pub truth_reading : (s : Bool) (w x : ℕ) → x < 2 ^ w → not (nat_eq x 0) ≡ truth (reading s w x)
truth_reading s w x h = by (nat_eq x 0) refl
  where
    zero_number : (s : Bool) → reading s w 0 ≡ pos 0
    zero_number false = refl
    zero_number true = let p = pow_pos w in grind arith

    by : (t : Bool) → nat_eq x 0 ≡ t → not t ≡ truth (reading s w x)
    by true e = let is : x ≡ 0 = grind arith in sym (ap (λ n. truth (reading s w n)) is ∙ ap truth (zero_number s))
    by false e = let some : x ≡ 0 → ⊥ = grind arith in sym (other (reading s w x) (λ d. some (sym (low_reading s w x h) ∙ ap (low w) d ∙ low_word w 0 (pow_pos w))))
