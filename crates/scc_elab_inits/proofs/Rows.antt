-- A list by its first and the others.
use Rattle.std.proofs.Common.{◌≡◌, ap, ◌∙◌, arith, ℕ, suc, ◌-◌, ◌≤◌, length, take, drop, get_or, List, [], ◌∷◌, refl}

take_all : {A : Type 0} (xs : List A) → take (length xs) xs ≡ xs
take_all [] = refl
take_all (x ∷ xs) = ap (λ ys. x ∷ ys) (take_all xs)

pub slice_is : {A : Type 0} (xs : List A) (s : A) → 1 ≤ length xs → s ≡ get_or xs 0 s → s ∷ take (length xs - 1) (drop 1 xs) ≡ xs
slice_is [] s a e = absurd (omega arith)
slice_is (x ∷ xs) s a e = λ i. e i ∷ (ap (λ n. take n xs) (less (length xs)) ∙ take_all xs) i
  where
    less : (n : ℕ) → suc n - 1 ≡ n
    less n = omega arith
