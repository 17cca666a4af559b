-- The indices of elements in order.
use Rattle.std.proofs.Common.{◌≡◌, sym, ap, ◌∙◌, arith, ℕ, suc, ◌+◌, ◌-◌, ◌<◌, List, ◌++◌, flat_map, append_assoc}
use Rattle.std.specs.List.{range_with_len}

pub spread_next : {X : Type 0} (f : ℕ → List X) (all new total : List X) (i size : ℕ) → i < size → all ++ flat_map f (range_with_len i (size - i)) ≡ total → new ≡ all ++ f i
    → new ++ flat_map f (range_with_len (i + 1) (size - (i + 1))) ≡ total
spread_next f all new total i size low inv added =
    let k : size - i ≡ suc (size - (i + 1)) = omega (arith, low) in
    let rest = flat_map f (range_with_len (i + 1) (size - (i + 1))) in
    ap (λ z. z ++ rest) added ∙ append_assoc all (f i) rest ∙ sym (ap (λ n. all ++ flat_map f (range_with_len i n)) k) ∙ inv
