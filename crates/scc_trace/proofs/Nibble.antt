-- Digits of base 16 of a number of 128 bits.
use Rattle.std.proofs.Common.{◌≡◌, ◌≤◌, ◌<◌, ◌-◌, ◌*◌, ◌/◌, ◌%◌, ◌^◌, ℕ, zero, suc, [], ◌∷◌, arith, refl, ap}
use Rattle.std.proofs.Math.Pow.{pow_mono}
use Rattle.std.proofs.Math.Nat.{div-eq_of_lt}
use Rattle.scc_trace.specs.Text.{digit, hex_text}

pub no_digit : (value behind : ℕ) → value < 2 ^ 128 → 32 ≤ behind → value / 2 ^ (4 * behind) % 16 ≡ 0
no_digit value behind h k =
    let m : 2 ^ 128 ≤ 2 ^ (4 * behind) = pow_mono {i = 128} {j = 4 * behind} (omega arith) in
    let l : value < 2 ^ (4 * behind) = omega arith in
    ap (λ n. n % 16) (div-eq_of_lt l)

pub small_shift : (behind : ℕ) → behind < 32 → 4 * behind < 128
small_shift behind h = omega arith

pub hex_more : (n v : ℕ) → 0 < n → hex_text n v ≡ digit (v / 2 ^ (4 * (n - 1)) % 16) ∷ hex_text (n - 1) v
unfolding hex_text
hex_more zero v h = absurd (omega arith)
hex_more (suc n) v h = let e : suc n - 1 ≡ n = omega arith in rw e refl

pub hex_none : (v : ℕ) → hex_text 0 v ≡ []
unfolding hex_text
hex_none v = refl
