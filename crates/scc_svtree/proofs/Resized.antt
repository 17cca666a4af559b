-- Words of at most 128 bits.
use Rattle.std.proofs.Common.{◌≡◌, ◌≤◌, min, ℕ, arith}

pub narrow : (n : ℕ) → n ≤ 128 → min n 128 ≡ n
narrow n h = omega arith
