-- The fewest bits of a constant.
use Rattle.std.specs.Prelude.{◌≡◌, ℕ, zero, suc, ◌+◌, ◌-◌, ◌*◌, ◌^◌, ◌<◌, ◌≤◌, ◌⊎◌, max, min, true, false, pos, negsuc}
use Rattle.std.proofs.Common.{refl, sym, ◌∙◌, ap, subst, arith, pow-suc, inl, inr}
use Rattle.std.specs.Int.Count.{count_leading_zeros}
use Rattle.std.proofs.lemmas.Nat.{leading_length}
use Rattle.std.proofs.lemmas.Bool.{cases_lt}
use Rattle.std.proofs.Math.Nat.{pow-le-pow_right}
use Rattle.scc_bits_kinds.specs.Counts.{wide}
use Rattle.scc_bits_kinds.specs.Constants.{CountsBy}
use Rattle.scc_bits_kinds.proofs.Low.{read_low}

pub digits_hold : (a : ℕ) → a < 2 ^ 128 → a < 2 ^ (128 - count_leading_zeros 128 a)
digits_hold a h =
    let l = leading_length 128 a h in
    let e : l.0 ≡ 128 - count_leading_zeros 128 a = omega (arith, l.1) in
    subst (λ n. a < 2 ^ n) e l.2

pub digits_least : (a : ℕ) → a < 2 ^ 128 → 2 ^ (128 - count_leading_zeros 128 a) ≤ 2 * a + 1
digits_least a h =
    let l = leading_length 128 a h in
    let e : l.0 ≡ 128 - count_leading_zeros 128 a = omega (arith, l.1) in
    subst (λ n. 2 ^ n ≤ 2 * a + 1) e l.3

more : (m n : ℕ) → m ≤ n → 2 ^ m ≤ 2 ^ n
more m n p = pow-le-pow_right {n = 2} (omega arith) p

-- no fewer bits than d hold a number of d digits
fewest : (a d m : ℕ) → 2 ^ d ≤ 2 * a + 1 → a < 2 ^ m → d ≤ m
fewest a d m p q = by d refl (cases_lt m d)
  where
    by : (n : ℕ) → n ≡ d → (m < d) ⊎ (d ≤ m) → d ≤ m
    by n e (inr l) = l
    by zero e (inl l) = omega arith
    by (suc n) e (inl l) =
        let t : 2 ^ d ≡ 2 * 2 ^ n = ap (λ k. 2 ^ k) (sym e) ∙ pow-suc 2 n ∙ omega arith in
        let u = more m n (omega arith) in
        absurd (omega arith)

fewest_signed : (b d m : ℕ) → 2 ^ d ≤ 2 * b + 1 → 1 ≤ m → 2 * b < 2 ^ m → d + 1 ≤ m
fewest_signed b d zero l o k = absurd (omega arith)
fewest_signed b d (suc m) l o k =
    let t : 2 ^ suc m ≡ 2 * 2 ^ m = pow-suc 2 m ∙ omega arith in
    let f = fewest b d m l (omega arith) in
    omega arith

pub positive : (a d : ℕ) → a < 2 ^ 128 → d ≤ 128 → a < 2 ^ d → 2 ^ d ≤ 2 * a + 1 → CountsBy (pos a) (wide (max d 1) false)
positive a d b p h l =
    let n = max d 1 in
    let holds : a < 2 ^ n = let m = more d n (omega arith) in omega arith in
    let is : min n 255 ≡ n = omega arith in
    let width : min (min n 255) 128 ≡ n = omega arith in
    record {
      is_wide = ap (λ m. wide m false) (sym is);
      is_valid = (omega arith, omega arith);
      holds = subst (λ m. a < 2 ^ m) (sym is) holds;
      least = λ m o k. let f = fewest a d m l k in omega arith;
      keeps = read_low false (min (min n 255) 128) (pos a) (omega arith) (subst (λ m. a < 2 ^ m) (sym width) holds);
    }

pub negative : (b d : ℕ) → b < 2 ^ 127 → d ≤ 128 → b < 2 ^ d → 2 ^ d ≤ 2 * b + 1 → CountsBy (negsuc b) (wide (d + 1) true)
negative b d g p h l =
    let n = d + 1 in
    let small : d ≤ 127 = fewest b d 127 l g in
    let double : 2 ^ n ≡ 2 * 2 ^ d = ap (λ k. 2 ^ k) (omega arith) ∙ pow-suc 2 d ∙ omega arith in
    let holds : 2 * b < 2 ^ n = omega arith in
    let is : min n 255 ≡ n = omega arith in
    let width : min (min n 255) 128 ≡ n = omega arith in
    record {
      is_wide = ap (λ m. wide m true) (sym is);
      is_valid = (omega arith, omega arith);
      holds = subst (λ m. 2 * b < 2 ^ m) (sym is) holds;
      least = λ m o k. let f = fewest_signed b d m l o k in omega arith;
      keeps = read_low true (min (min n 255) 128) (negsuc b) (omega arith) (subst (λ m. 2 * b < 2 ^ m) (sym width) holds);
    }
