-- Lists of which no two are alike.
use Rattle.std.proofs.Common.{◌≡◌, ℕ, zero, suc, ◌+◌, ◌≤◌, List, [], ◌∷◌, ◌++◌, map, flat_map, Some, slice_get, refl, ap, subst, arith}
use Rattle.std.specs.List.{range_with_len}
use Rattle.scc_elab_spec.specs.Bodies.{elements}
use Rattle.scc_core_unroll_laws.proofs.Counters.{some-is}
use Rattle.scc_inline_laws.proofs.Elements.{Each, each-append, each-map, each-by, each-flat}

pub each-all : {A : Type 0} (P : A → Type 0) → ((x : A) → P x) → (xs : List A) → Each P xs
each-all P f [] = tt
each-all P f (x ∷ xs) = (f x, each-all P f xs)

pub each-at : {A : Type 0} (P : A → Type 0) (xs : List A) (n : ℕ) (x : A) → Each P xs → slice_get xs n ≡ Some x → P x
each-at P [] n x h e = absurd cc
each-at P (y ∷ xs) zero x h e = subst P (some-is e) h.0
each-at P (y ∷ xs) (suc n) x h e = each-at P xs n x h.1 e

-- each is so to each behind it
abbrev pub Pairs : {A : Type 0} → (A → A → Type 0) → List A → Type 0
Pairs R [] = Unit {0}
Pairs R (x ∷ xs) = Each (R x) xs × Pairs R xs

pub pairs-append : {A : Type 0} (R : A → A → Type 0) (xs ys : List A) → Pairs R xs → Pairs R ys → Each (λ x. Each (R x) ys) xs → Pairs R (xs ++ ys)
pairs-append R [] ys a b c = b
pairs-append R (x ∷ xs) ys a b c = (each-append (R x) xs ys a.0 c.0, pairs-append R xs ys a.1 b c.1)

pub pairs-map : {A B : Type 0} (R : B → B → Type 0) (f : A → B) (xs : List A) → Pairs (λ x y. R (f x) (f y)) xs → Pairs R (map f xs)
pairs-map R f [] a = tt
pairs-map R f (x ∷ xs) a = (each-map (R (f x)) f xs a.0, pairs-map R f xs a.1)

pub pairs-by : {A : Type 0} (R S : A → A → Type 0) → ((x y : A) → R x y → S x y) → (xs : List A) → Pairs R xs → Pairs S xs
pairs-by R S f [] a = tt
pairs-by R S f (x ∷ xs) a = (each-by (R x) (S x) (f x) xs a.0, pairs-by R S f xs a.1)

-- two that are not so to each other are one
pub pairs-at : {A : Type 0} (R : A → A → Type 0) (xs : List A) (n m : ℕ) (x y : A) → Pairs R xs → slice_get xs n ≡ Some x → slice_get xs m ≡ Some y → (R x y → ⊥) → (R y x → ⊥) → n ≡ m
pairs-at R [] n m x y h e f a b = absurd cc
pairs-at R (z ∷ xs) zero zero x y h e f a b = refl
pairs-at R (z ∷ xs) zero (suc m) x y h e f a b = absurd (a (subst (λ z. R z y) (some-is e) (each-at (R z) xs m y h.0 f)))
pairs-at R (z ∷ xs) (suc n) zero x y h e f a b = absurd (b (subst (λ z. R z x) (some-is f) (each-at (R z) xs n x h.0 e)))
pairs-at R (z ∷ xs) (suc n) (suc m) x y h e f a b = ap suc (pairs-at R xs n m x y h.1 e f a b)

abbrev pub Differ : {A : Type 0} → A → A → Type 0
Differ x y = x ≡ y → ⊥

range-from : (lo a n : ℕ) → lo ≤ a → Each (λ k. lo ≤ k) (range_with_len a n)
range-from lo a zero h = tt
range-from lo a (suc n) h = (h, range-from lo (a + 1) n (omega (arith, h)))

range-differs : (a n : ℕ) → Pairs Differ (range_with_len a n)
range-differs a zero = tt
range-differs a (suc n) = (each-by (λ k. a + 1 ≤ k) (Differ a) (λ k h e. omega (arith, h, e)) (range_with_len (a + 1) n) (range-from (a + 1) (a + 1) n (omega arith)), range-differs (a + 1) n)

head-of : List ℕ → ℕ
head-of [] = 0
head-of (x ∷ xs) = x

tail-of : List ℕ → List ℕ
tail-of [] = []
tail-of (x ∷ xs) = xs

heads-differ : (a b : ℕ) (more others : List ℕ) → (a ≡ b → ⊥) → a ∷ more ≡ b ∷ others → ⊥
unfolding head-of
heads-differ a b more others h e = h (ap head-of e)

tails-differ : (a : ℕ) (more others : List ℕ) → (more ≡ others → ⊥) → a ∷ more ≡ a ∷ others → ⊥
unfolding tail-of
tails-differ a more others h e = h (ap tail-of e)

-- no two elements of an array have the same indices
pub elements-differ : (sizes : List ℕ) → Pairs Differ (elements sizes)
elements-differ [] = (tt, tt)
elements-differ (n ∷ ns) = go (range_with_len 0 n) (range-differs 0 n) (elements-differ ns)
  where
    all : ℕ → List (List ℕ)
    all i = map (λ is. i ∷ is) (elements ns)

    behind : (i : ℕ) (is : List ℕ) (ks : List ℕ) → Each (Differ i) ks → Each (Differ (i ∷ is)) (flat_map all ks)
    behind i is ks h = each-flat (Differ (i ∷ is)) all ks (each-by (Differ i) (λ k. Each (Differ (i ∷ is)) (all k))
        (λ k h. each-map (Differ (i ∷ is)) (λ js. k ∷ js) (elements ns) (each-all (λ js. Differ (i ∷ is) (k ∷ js)) (λ js. heads-differ i k is js h) (elements ns))) ks h)

    go : (ks : List ℕ) → Pairs Differ ks → Pairs Differ (elements ns) → Pairs Differ (flat_map all ks)
    go [] h ih = tt
    go (k ∷ ks) h ih = pairs-append Differ (all k) (flat_map all ks)
        (pairs-map Differ (λ is. k ∷ is) (elements ns) (pairs-by Differ (λ is js. Differ (k ∷ is) (k ∷ js)) (λ is js. tails-differ k is js) (elements ns) ih))
        (go ks h.1 ih)
        (each-map (λ x. Each (Differ x) (flat_map all ks)) (λ is. k ∷ is) (elements ns) (each-all (λ is. Each (Differ (k ∷ is)) (flat_map all ks)) (λ is. behind k is ks h.0) (elements ns)))
