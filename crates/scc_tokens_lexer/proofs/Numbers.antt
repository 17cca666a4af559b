-- The number that digits write only grows as they are read.
use Rattle.std.proofs.Common.{◌≤◌, ◌<◌, ℕ, ◌+◌, ◌*◌, List, [], ◌∷◌, length, get_or, drop, arith}
use Rattle.std.proofs.Math.Nat.{mul-le-mul_left}
use Rattle.std.proofs.lemmas.List.{at_drop_more}
use Rattle.scc_tokens_lexer.specs.Number.{digits_value, digit_of}

pub value_grows : (base n : ℕ) (ds : List ℕ) → 0 < base → n ≤ digits_value base n ds
value_grows base n [] h = omega arith
value_grows base n (d ∷ ds) h =
    let rest = value_grows base (n * base + digit_of d) ds h in
    let more = mul-le-mul_left {m = 1} {n = base} n (omega arith) in
    omega arith

pub value_at_least : (base n : ℕ) (ds : List ℕ) (i : ℕ) → 0 < base → i < length ds → n * base + digit_of (get_or ds i 0) ≤ digits_value base n (drop i ds)
value_at_least base n ds i h k =
    let rest = value_grows base (n * base + digit_of (get_or ds i 0)) (drop (i + 1) ds) h in
    omega (arith, at_drop_more (digits_value base n) ds i 0 k)
