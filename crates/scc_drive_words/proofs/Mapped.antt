-- Front parts of lists, and lists that are mapped.
use Rattle.std.proofs.Common.{◌≡◌, List, [], ◌∷◌, Bool, map, ap, refl, suc, ◌+◌, length, drop, zero, cond, ℕ}
use Rattle.std.specs.List.{prefix_len}

pub prefix_len_map : {X Y : Type 0} (p : Y → Bool) (f : X → Y) (xs : List X) → prefix_len (λ x. p (f x)) xs ≡ prefix_len p (map f xs)
prefix_len_map p f [] = refl
prefix_len_map p f (x ∷ xs) = ap (λ n. cond (p (f x)) (1 + n) 0) (prefix_len_map p f xs)

pub length_of_map : {X Y : Type 0} (f : X → Y) (xs : List X) → length xs ≡ length (map f xs)
length_of_map f [] = refl
length_of_map f (x ∷ xs) = ap suc (length_of_map f xs)

pub drop_of_map : {X Y : Type 0} (f : X → Y) (n : ℕ) (xs : List X) → map f (drop n xs) ≡ drop n (map f xs)
drop_of_map f zero xs = refl
drop_of_map f (suc n) [] = refl
drop_of_map f (suc n) (x ∷ xs) = drop_of_map f n xs
