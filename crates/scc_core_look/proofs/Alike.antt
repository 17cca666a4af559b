-- Paths that are the same part by part.
use Rattle.std.proofs.Common.{◌≡◌, refl, arith, ℕ, zero, suc, ◌+◌, ◌<◌, ◌≤◌, Bool, true, false, ◌&&◌, List, [], ◌∷◌, ◌++◌, map, take, get_or, length, add-one, ap, ◌∙◌, sym}
use Rattle.std.proofs.Common.{Result, Ok, Err}
use Rattle.std.specs.Prelude.{IfOk}
use Rattle.std.specs.List.{list_all}
use Rattle.std.proofs.Math.Seq.{take-suc}
use Rattle.scc_base.specs.declared.path.PathPart.{PathPart}
use Rattle.scc_core_view.specs.Programs.{path_of}
use Rattle.scc_core_view.specs.Terms.{part_of}
use Rattle.scc_semantics.specs.Location.{Part, same_part, same_path}
use Rattle.scc_core_look.proofs.Apart.{both, first, second}

one-more : (xs ys : List PathPart) (x y : PathPart) → same_path (path_of xs) (path_of ys) ≡ true → same_part (part_of x) (part_of y) ≡ true → same_path (path_of (xs ++ x ∷ [])) (path_of (ys ++ y ∷ [])) ≡ true
one-more [] [] x y e h = both (same_part (part_of x) (part_of y)) true h refl
one-more [] (b ∷ ys) x y e h = absurd cc
one-more (a ∷ xs) [] x y e h = absurd cc
one-more (a ∷ xs) (b ∷ ys) x y e h = both (same_part (part_of a) (part_of b)) (same_path (path_of (xs ++ x ∷ [])) (path_of (ys ++ y ∷ [])))
    (first (same_part (part_of a) (part_of b)) (same_path (path_of xs) (path_of ys)) e) (one-more xs ys x y (second (same_part (part_of a) (part_of b)) (same_path (path_of xs) (path_of ys)) e) h)

-- what stands inside a list stands there whatever stands past its end
pub inside : {A : Type 0} (xs : List A) (i : ℕ) (d e : A) → i < length xs → get_or xs i d ≡ get_or xs i e
inside [] i d e h = absurd (let z = h in omega (arith, z))
inside (x ∷ xs) zero d e h = refl
inside (x ∷ xs) (suc i) d e h = inside xs i d e (omega (arith, h))

pub path_on : (a b : List PathPart) (i : ℕ) (x y : PathPart) → i < length a → i < length b → x ≡ get_or a i x → y ≡ get_or b i y → (same one now : Bool) → (same ≡ true → same_path (path_of (take i a)) (path_of (take i b)) ≡ true)
    → one ≡ same_part (part_of x) (part_of y) → now ≡ (same && one) → now ≡ true → same_path (path_of (take (i + 1) a)) (path_of (take (i + 1) b)) ≡ true
path_on a b i x y g h e f same one now k l m t =
    let w : (same && one) ≡ true = sym m ∙ t in
    (λ z. same_path (path_of (more a x g e z)) (path_of (more b y h f z)))
    ∙ one-more (take i a) (take i b) x y (k (first same one w)) (sym l ∙ second same one w)
  where
    more : (xs : List PathPart) (x : PathPart) → i < length xs → x ≡ get_or xs i x → take (i + 1) xs ≡ take i xs ++ x ∷ []
    more xs x h is = ap (λ n. take n xs) (add-one i) ∙ take-suc xs i x h ∙ ap (λ x. take i xs ++ x ∷ []) (sym is)

-- a test of each element of a list, along a walk that is one further
all-more : {A B : Type 0} (f : B → Bool) (g : A → B) (xs : List A) (x : A) → list_all f (map g xs) ≡ true → f (g x) ≡ true → list_all f (map g (xs ++ x ∷ [])) ≡ true
all-more f g [] x e h = both (f (g x)) true h refl
all-more f g (y ∷ xs) x e h = both (f (g y)) (list_all f (map g (xs ++ x ∷ []))) (first (f (g y)) (list_all f (map g xs)) e) (all-more f g xs x (second (f (g y)) (list_all f (map g xs)) e) h)

pub all-on : {A B : Type 0} (f : B → Bool) (g : A → B) (xs : List A) (i : ℕ) (x : A) → i < length xs → x ≡ get_or xs i x → (all one now : Bool) → (all ≡ true → list_all f (map g (take i xs)) ≡ true) → (one ≡ true → f (g x) ≡ true)
    → now ≡ (all && one) → now ≡ true → list_all f (map g (take (i + 1) xs)) ≡ true
all-on f g xs i x h is all one now k l m t =
    let w : (all && one) ≡ true = sym m ∙ t in
    ap (λ n. list_all f (map g (take n xs))) (add-one i)
    ∙ ap (λ ys. list_all f (map g ys)) (take-suc xs i x h)
    ∙ ap (λ x. list_all f (map g (take i xs ++ x ∷ []))) (sym is)
    ∙ all-more f g (take i xs) x (k (first all one w)) (l (second all one w))

-- all of a list
pub taken-whole : {A : Type 0} (xs : List A) (i : ℕ) → length xs ≤ i → take i xs ≡ xs
taken-whole [] zero h = refl
taken-whole [] (suc i) h = refl
taken-whole (x ∷ xs) zero h = absurd (let z = h in omega (arith, z))
taken-whole (x ∷ xs) (suc i) h = ap (λ ys. x ∷ ys) (taken-whole xs i (omega (arith, h)))

itself-more : {A : Type 0} (f : A → Bool) (xs : List A) (x : A) → list_all f xs ≡ true → f x ≡ true → list_all f (xs ++ x ∷ []) ≡ true
itself-more f [] x e h = both (f x) true h refl
itself-more f (y ∷ xs) x e h = both (f y) (list_all f (xs ++ x ∷ [])) (first (f y) (list_all f xs) e) (itself-more f xs x (second (f y) (list_all f xs) e) h)

pub all-one : {A : Type 0} (f : A → Bool) (xs : List A) (i : ℕ) (x : A) → i < length xs → x ≡ get_or xs i x → (all one now : Bool) → (all ≡ true → list_all f (take i xs) ≡ true) → (one ≡ true → f x ≡ true)
    → now ≡ (all && one) → now ≡ true → list_all f (take (i + 1) xs) ≡ true
all-one f xs i x h is all one now k l m t =
    let w : (all && one) ≡ true = sym m ∙ t in
    ap (λ n. list_all f (take n xs)) (add-one i)
    ∙ ap (λ ys. list_all f ys) (take-suc xs i x h)
    ∙ ap (λ x. list_all f (take i xs ++ x ∷ [])) (sym is)
    ∙ itself-more f (take i xs) x (k (first all one w)) (l (second all one w))

-- what holds of each answer
pub each-ok : {A E : Type 0} (P Q : A → Type 0) (r : Result A E) → IfOk r P → ((a : A) → P a → Q a) → IfOk r Q
each-ok P Q (Ok a) p f = f a p
each-ok P Q (Err e) p f = p
