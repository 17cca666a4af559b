-- The fewest bits that hold a number.
use Rattle.std.proofs.Common.{◌≡◌, arith, ℕ, zero, suc, ◌+◌, ◌-◌, ◌*◌, ◌^◌, ◌<◌, ◌≤◌, subst, sym, ap, ◌∙◌}
use Rattle.std.specs.Prelude.{max}
use Rattle.std.specs.Int.Count.{count_leading_zeros, leading_of_zero}
use Rattle.std.proofs.lemmas.Nat.{leading_length}
use Rattle.std.proofs.Math.Nat.{le-max_left, max-le, pow-suc}
use Rattle.scc_blocks_spec.specs.Built.{IsFewest}

half : (p n : ℕ) → p * 2 ≤ 2 * n + 1 → p * 2 ≤ 2 * n
half p n h = omega arith

pub fewest : (n z r : ℕ) → n < 2 ^ 32 → 0 < n → z ≡ count_leading_zeros 32 n → r ≡ max (32 - z) 1 → IsFewest n r
fewest n z r h some zeros is = by l.0 l.1 l.2 l.3
  where
    l : (m : ℕ) × (count_leading_zeros 32 n + m ≡ 32) × (n < 2 ^ m) × (2 ^ m ≤ 2 * n + 1)
    l = leading_length 32 n h

    by : (m : ℕ) → count_leading_zeros 32 n + m ≡ 32 → n < 2 ^ m → 2 ^ m ≤ 2 * n + 1 → IsFewest n r
    by zero e a b = absurd (let one : n < 1 = a in omega arith)
    by (suc k) e a b =
        let wide : 32 - z ≡ suc k = omega arith in
        let low : 32 - z ≤ max (32 - z) 1 = le-max_left (32 - z) 1 in
        let high : max (32 - z) 1 ≤ suc k = max-le (omega arith) (omega arith) in
        let same : suc k ≡ r = omega arith in
        let double : 2 ^ suc k ≡ 2 ^ k * 2 = pow-suc 2 k in
        subst (IsFewest n) same (a, subst (λ x. x ≤ 2 * n) (sym double) (half (2 ^ k) n (subst (λ x. x ≤ 2 * n + 1) double b)))

pub none : (n z r : ℕ) → n ≡ 0 → z ≡ count_leading_zeros 32 n → r ≡ max (32 - z) 1 → r ≡ 1
none n z r e zeros is = is ∙ ap (λ y. max (32 - y) 1) (zeros ∙ ap (count_leading_zeros 32) e ∙ leading_of_zero 32)
