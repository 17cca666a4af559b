-- Sums and products that stand still at a limit, along lists.
use Rattle.std.proofs.Common.{◌≡◌, refl, arith, ℕ, zero, suc, List, [], ◌∷◌, ◌++◌, map, take, get_or, length, add-one, ◌+◌, ◌*◌, ◌<◌, ◌≤◌, min, ap, ◌∙◌, sym}
use Rattle.std.proofs.Common.{Bool, true, false, ◌||◌, Option, Some, None, if◌then◌else◌, ◌⊎◌, inl, inr}
use Rattle.std.proofs.Math.Nat.{mul-le-mul_left}
use Rattle.std.proofs.Math.Seq.{take-suc}
use Rattle.std.proofs.lemmas.Bool.{cases_lt}
use Rattle.scc_states_sum.specs.declared.elements.Counted.{Counted}
use Rattle.scc_states_sum.specs.Elements.{Part, most, cut, total, factor, product, is_open, some_open, under}
use Rattle.scc_states_sum.specs.Counting.{times, with_part, whole_part, counted}

-- ---- sums

pub cut_more : (m a b : ℕ) → min (min a m + min b m) m ≡ min (a + b) m
cut_more m a b = omega arith

regroup : (x y z : ℕ) → x + (y + z) ≡ x + y + z
regroup x y z = omega arith

nothing_more : (x : ℕ) → x + 0 ≡ 0 + x
nothing_more x = omega arith

sum_more : (ns : List ℕ) (n : ℕ) → total (ns ++ n ∷ []) ≡ total ns + n
sum_more [] n = nothing_more n
sum_more (x ∷ xs) n = ap (λ s. x + s) (sum_more xs n) ∙ regroup x (total xs) n

pub map_more : {A B : Type 0} (f : A → B) (xs : List A) (x : A) → map f (xs ++ x ∷ []) ≡ map f xs ++ f x ∷ []
map_more f [] x = refl
map_more f (y ∷ ys) x = ap (λ zs. f y ∷ zs) (map_more f ys x)

-- a front of a list that is one longer
pub map_further : {A B : Type 0} (f : A → B) (xs : List A) (i : ℕ) (x : A) → i < length xs → x ≡ get_or xs i x
    → map f (take (i + 1) xs) ≡ map f (take i xs) ++ f x ∷ []
map_further f xs i x h is =
    ap (λ n. map f (take n xs)) (add-one i)
    ∙ ap (λ ys. map f ys) (take-suc xs i x h)
    ∙ ap (λ y. map f (take i xs ++ y ∷ [])) (sym is)
    ∙ map_more f (take i xs) x

-- a walk along a list that is one further
pub one_further : {X : Type 0} (f : X → ℕ) (xs : List X) (i : ℕ) (x : X) → i < length xs → x ≡ get_or xs i x
    → (z one w : ℕ) → z ≡ cut (total (map f (take i xs))) → one ≡ cut (f x) → w ≡ cut (z + one)
    → w ≡ cut (total (map f (take (i + 1) xs)))
one_further f xs i x h is z one w j k l =
    l ∙ ap (λ n. cut (n + one)) j ∙ ap (λ n. cut (cut (total (map f (take i xs))) + n)) k
    ∙ cut_more most (total (map f (take i xs))) (f x)
    ∙ ap cut (sym (sum_more (map f (take i xs)) (f x)))
    ∙ ap (λ ns. cut (total ns)) (sym (map_further f xs i x h is))

-- ---- products

past : (m x s : ℕ) → m < x → min (min x m * s) m ≡ min (x * s) m
past m x zero h = omega arith
past m x (suc n) h =
    let e : min x m ≡ m = omega (arith, h) in
    let f : m * 1 ≤ m * suc n = mul-le-mul_left m (omega arith) in
    let g : x * 1 ≤ x * suc n = mul-le-mul_left x (omega arith) in
    let i : min (m * suc n) m ≡ m = omega (arith, f) in
    let j : min (x * suc n) m ≡ m = omega (arith, g, h) in
    ap (λ y. min (y * suc n) m) e ∙ i ∙ sym j

within : (m x s : ℕ) → x ≤ m → min (min x m * s) m ≡ min (x * s) m
within m x s h = let e : min x m ≡ x = omega (arith, h) in ap (λ y. min (y * s) m) e

by_order : (m x s : ℕ) → (m < x) ⊎ (x ≤ m) → min (min x m * s) m ≡ min (x * s) m
by_order m x s (inl h) = past m x s h
by_order m x s (inr h) = within m x s h

cut_times : (m x s : ℕ) → min (min x m * s) m ≡ min (x * s) m
cut_times m x s = by_order m x s (cases_lt m x)

regroup_times : (x y z : ℕ) → x * (y * z) ≡ x * y * z
regroup_times x y z = omega arith

once : (x : ℕ) → x * 1 ≡ 1 * x
once x = omega arith

product_more : (ns : List ℕ) (n : ℕ) → product (ns ++ n ∷ []) ≡ product ns * n
product_more [] n = once n
product_more (x ∷ xs) n = ap (λ s. x * s) (product_more xs n) ∙ regroup_times x (product xs) n

as_once : (x : ℕ) → x ≡ x * 1
as_once x = omega arith

one_more_factor : (x : ℕ) (o : Option ℕ) → times (cut x) o ≡ cut (x * factor o)
one_more_factor x None = ap cut (as_once x)
one_more_factor x (Some n) = cut_times most x n

or_nothing : (a : Bool) → (a || false) ≡ a
or_nothing true = refl
or_nothing false = refl

or_assoc : (a b c : Bool) → (a || (b || c)) ≡ ((a || b) || c)
or_assoc true b c = refl
or_assoc false b c = refl

open_more : (os : List (Option ℕ)) (o : Option ℕ) → some_open (os ++ o ∷ []) ≡ (some_open os || is_open o)
open_more [] o = or_nothing (is_open o)
open_more (x ∷ xs) o = ap (λ b. is_open x || b) (open_more xs o) ∙ or_assoc (is_open x) (some_open xs) (is_open o)

-- ---- the parts of a location

abbrev counts : ℕ → ℕ → Bool → Counted
counts i p o = record { inside = i; product = p; is_open = o }

same : (i j p q : ℕ) (a b : Bool) → i ≡ j → p ≡ q → a ≡ b → counts i p a ≡ counts j q b
same i j p q a b h k l = ap (λ x. counts x p a) h ∙ ap (λ x. counts j x a) k ∙ ap (λ x. counts j q x) l

counted_more : (ps : List Part) (p : Part) → with_part (counted ps) (cut p.inside) p.size ≡ counted (ps ++ p ∷ [])
counted_more ps p = same _ _ _ _ _ _
    (cut_more most (total (map (λ q. q.inside) ps)) p.inside ∙ ap cut (sym (sum_more (map (λ q. q.inside) ps) p.inside))
    ∙ ap (λ ns. cut (total ns)) (sym (map_more (λ q. q.inside) ps p)))
    (one_more_factor (product (map (λ q. factor q.size) ps)) p.size ∙ ap cut (sym (product_more (map (λ q. factor q.size) ps) (factor p.size)))
    ∙ ap (λ ns. cut (product ns)) (sym (map_more (λ q. factor q.size) ps p)))
    (sym (open_more (map (λ q. q.size) ps) p.size) ∙ ap some_open (sym (map_more (λ q. q.size) ps p)))

pub part_further : {A : Type 0} (f : A → Part) (xs : List A) (i : ℕ) (x : A) → i < length xs → x ≡ get_or xs i x
    → (all : Counted) (inside : ℕ) (size : Option ℕ) (w : Counted) → all ≡ counted (map f (take i xs)) → inside ≡ cut (f x).inside → size ≡ (f x).size
    → w ≡ with_part all inside size
    → w ≡ counted (map f (take (i + 1) xs))
part_further f xs i x h is all inside size w j k l m =
    m ∙ ap (λ c. with_part c inside size) j ∙ ap (λ n. with_part (counted (map f (take i xs))) n size) k
    ∙ ap (λ o. with_part (counted (map f (take i xs))) (cut (f x).inside) o) l
    ∙ counted_more (map f (take i xs)) (f x)
    ∙ ap counted (sym (map_further f xs i x h is))

by_open : (b : Bool) (p s k m : ℕ) → (if b then min (min p m + min (min s m + min k m) m) m else min (min s m + min k m) m)
    ≡ min ((if b then p else 0) + (s + k)) m
by_open true p s k m = omega arith
by_open false p s k m = omega arith

fused : (ps : List Part) → map (λ p. factor p.size) ps ≡ map factor (map (λ p. p.size) ps)
fused [] = refl
fused (p ∷ ps) = ap (λ ns. factor p.size ∷ ns) (fused ps)

pub whole_is : (ps : List Part) (k : ℕ) → whole_part (counted ps) (cut k) ≡ cut (under (map (λ p. p.size) ps) + (total (map (λ p. p.inside) ps) + k))
whole_is ps k =
    by_open (some_open (map (λ p. p.size) ps)) (product (map (λ p. factor p.size) ps)) (total (map (λ p. p.inside) ps)) k most
    ∙ ap (λ ns. cut ((if some_open (map (λ p. p.size) ps) then product ns else 0) + (total (map (λ p. p.inside) ps) + k))) (fused ps)

-- ---- an operand beside the first one

pub first_only : (x e : ℕ) → e ≡ x → cut (0 + x) ≡ cut e
first_only x e h = omega (arith, h)

pub beside_first : (a b e r : ℕ) → r ≡ cut b → e ≡ a + b → cut (r + a) ≡ cut e
beside_first a b e r h i = omega (arith, h, i)

pub beside_two : (t a b e x y r : ℕ) → x ≡ cut a → y ≡ cut b → r ≡ cut (x + y) → e ≡ t + (a + b) → cut (r + t) ≡ cut e
beside_two t a b e x y r h i j k = omega (arith, h, i, j, k)

pub all_of : (a e r : ℕ) → r ≡ cut a → e ≡ a → r ≡ cut e
all_of a e r h i = h ∙ ap cut (sym i)

pub none_of : (e : ℕ) → e ≡ 0 → 0 ≡ cut e
none_of e h = omega (arith, h)
