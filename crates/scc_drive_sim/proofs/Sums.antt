-- Sums that stand still at a limit.
use Rattle.std.proofs.Common.{◌≡◌, arith, ℕ, List, [], ◌∷◌, ◌++◌, map, take, get_or, length, add-one, ◌+◌, ◌<◌, min, ap, ◌∙◌, sym}
use Rattle.std.proofs.Math.Seq.{take-suc}
use Rattle.scc_drive_sim.specs.Segments.{total}

regroup : (x y z : ℕ) → x + (y + z) ≡ x + y + z
regroup x y z = omega arith

nothing_more : (x : ℕ) → x + 0 ≡ 0 + x
nothing_more x = omega arith

sum_more : {X : Type 0} (f : X → ℕ) (xs : List X) (x : X) → total (map f (xs ++ x ∷ [])) ≡ total (map f xs) + f x
sum_more f [] x = nothing_more (f x)
sum_more f (y ∷ ys) x = ap (λ n. f y + n) (sum_more f ys x) ∙ regroup (f y) (total (map f ys)) (f x)

cut_more : (m a b : ℕ) → min (min a m + min b m) m ≡ min (a + b) m
cut_more m a b = omega arith

-- a walk along a list that is one further
pub one_further : {X : Type 0} (f : X → ℕ) (m : ℕ) (xs : List X) (i : ℕ) (x : X) → i < length xs → x ≡ get_or xs i x
    → (z one w : ℕ) → z ≡ min (total (map f (take i xs))) m → one ≡ min (f x) m → w ≡ min (z + one) m
    → w ≡ min (total (map f (take (i + 1) xs))) m
one_further f m xs i x h is z one w j k l =
    l ∙ ap (λ n. min (n + one) m) j ∙ ap (λ n. min (min (total (map f (take i xs))) m + n) m) k
    ∙ cut_more m (total (map f (take i xs))) (f x)
    ∙ ap (λ n. min n m) (sym (sum_more f (take i xs) x))
    ∙ ap (λ y. min (total (map f (take i xs ++ y ∷ []))) m) is
    ∙ ap (λ ys. min (total (map f ys)) m) (sym (take-suc xs i x h))
    ∙ ap (λ n. min (total (map f (take n xs))) m) (sym (add-one i))

-- a test and its branches
pub both_branches : (m a b : ℕ) → min (min (min a m + min b m) m + 1) m ≡ min (1 + (a + b)) m
both_branches m a b = omega arith
