-- A declaration clears just the elements.
use Rattle.std.proofs.Common.{◌≡◌, refl, sym, ap, ◌∙◌, arith, ℕ, zero, suc, ◌+◌, nat_eq, nat_le, nat_lt, Bool, true, false, ◌&&◌, ◌||◌, List, [], ◌∷◌, ◌++◌, map, Option, None, if◌then◌else◌}
use Rattle.std.specs.Prelude.{flat_map}
use Rattle.std.specs.List.{list_any, range_with_len}
use Rattle.std.proofs.lemmas.Bool.Decides.{nat_tests}
use Rattle.scc_semantics.specs.Location.{Location, Part, Element, Member, Local, same, same_path, same_root}
use Rattle.scc_elab_spec.specs.Grown.{Grown, local_of, with_word, with_target}
use Rattle.scc_elab_spec.specs.Worth.{is_inside}
use Rattle.scc_elab_spec.specs.Bodies.{elements}
use Rattle.scc_elab_spec.specs.Made.{elements_at}
use Rattle.scc_elab_works.specs.Clears.{is_element}
use Rattle.scc_elab_works.specs.Paths.{all_cleared, cleared}

or_both : {A : Type 0} (b c : Bool) (x y : A) → (if c then x else (if b then x else y)) ≡ (if b || c then x else y)
or_both true true x y = refl
or_both true false x y = refl
or_both false true x y = refl
or_both false false x y = refl

or_more : (a b c : Bool) → (a || (b || c)) ≡ ((a || b) || c)
or_more true b c = refl
or_more false b c = refl

and_no : (b : Bool) → (b && false) ≡ false
and_no true = refl
and_no false = refl

any_no : {A : Type 0} (xs : List A) → list_any (λ x. false) xs ≡ false
any_no [] = refl
any_no (x ∷ xs) = any_no xs

any_append : {A : Type 0} (f : A → Bool) (xs ys : List A) → list_any f (xs ++ ys) ≡ (list_any f xs || list_any f ys)
any_append f [] ys = refl
any_append f (x ∷ xs) ys = ap (λ b. f x || b) (any_append f xs ys) ∙ or_more (f x) (list_any f xs) (list_any f ys)

any_map : {A B : Type 0} (f : B → Bool) (h : A → B) (xs : List A) → list_any f (map h xs) ≡ list_any (λ x. f (h x)) xs
any_map f h [] = refl
any_map f h (x ∷ xs) = ap (λ b. f (h x) || b) (any_map f h xs)

any_flat : {A B : Type 0} (f : B → Bool) (h : A → List B) (xs : List A) → list_any f (flat_map h xs) ≡ list_any (λ x. list_any f (h x)) xs
any_flat f h [] = refl
any_flat f h (x ∷ xs) = any_append f (h x) (flat_map h xs) ∙ ap (λ b. list_any f (h x) || b) (any_flat f h xs)

any_front : {A : Type 0} (c : Bool) (f : A → Bool) (xs : List A) → list_any (λ x. c && f x) xs ≡ (c && list_any f xs)
any_front true f xs = refl
any_front false f xs = any_no xs

any_behind : {A : Type 0} (c : Bool) (f : A → Bool) (xs : List A) → list_any (λ x. f x && c) xs ≡ (list_any f xs && c)
any_behind true f xs = (λ i. list_any (λ x. and_yes (f x) i) xs) ∙ sym (and_yes (list_any f xs))
  where
    and_yes : (b : Bool) → (b && true) ≡ b
    and_yes true = refl
    and_yes false = refl
any_behind false f xs = (λ i. list_any (λ x. and_no (f x) i) xs) ∙ any_no xs ∙ sym (and_no (list_any f xs))

in_range : (a n k : ℕ) → list_any (λ i. nat_eq i k) (range_with_len a n) ≡ (nat_le a k && nat_lt k (a + n))
in_range a zero k = by (nat_le a k) (nat_lt k (a + zero)) refl refl
  where
    by : (b c : Bool) → nat_le a k ≡ b → nat_lt k (a + zero) ≡ c → false ≡ (b && c)
    by true true e f = absurd (grind (arith, nat_tests, e, f))
    by true false e f = refl
    by false c e f = refl
in_range a (suc n) k = ap (λ b. nat_eq a k || b) (in_range (a + 1) n k)
    ∙ by (nat_eq a k) (nat_le (a + 1) k) (nat_lt k (a + 1 + n)) (nat_le a k) (nat_lt k (a + suc n)) refl refl refl refl refl
  where
    by : (b c d e f : Bool) → nat_eq a k ≡ b → nat_le (a + 1) k ≡ c → nat_lt k (a + 1 + n) ≡ d → nat_le a k ≡ e → nat_lt k (a + suc n) ≡ f → (b || (c && d)) ≡ (e && f)
    by true c d true true p q r s t = refl
    by true c d true false p q r s t = absurd (grind (arith, nat_tests, p, t))
    by true c d false f p q r s t = absurd (grind (arith, nat_tests, p, s))
    by false true true true true p q r s t = refl
    by false true true true false p q r s t = absurd (grind (arith, nat_tests, r, t))
    by false true true false f p q r s t = absurd (grind (arith, nat_tests, q, s))
    by false true false true true p q r s t = absurd (grind (arith, nat_tests, r, t))
    by false true false true false p q r s t = refl
    by false true false false f p q r s t = refl
    by false false d true true p q r s t = absurd (grind (arith, nat_tests, p, q, s))
    by false false d true false p q r s t = refl
    by false false d false f p q r s t = refl

below : (n k : ℕ) → list_any (λ i. nat_eq i k) (range_with_len 0 n) ≡ nat_lt k n
below n k = let whole : 0 + n ≡ n = omega arith in in_range 0 n k ∙ ap (λ m. nat_le 0 k && nat_lt k m) whole ∙ by (nat_le 0 k) refl
  where
    by : (b : Bool) → nat_le 0 k ≡ b → (b && nat_lt k n) ≡ nat_lt k n
    by true e = refl
    by false e = absurd (grind (arith, nat_tests, e))

-- an index list is one of the elements just where each index is below its size
inside_is : (sizes : List ℕ) (path : List Part) → list_any (λ is. same_path (map Element is) path) (elements sizes) ≡ is_inside sizes path
inside_is [] [] = refl
inside_is [] (p ∷ ps) = refl
inside_is (n ∷ ns) path =
    any_flat (λ is. same_path (map Element is) path) (λ i. map (λ is. i ∷ is) (elements ns)) (range_with_len 0 n)
    ∙ (λ j. list_any (λ i. any_map (λ is. same_path (map Element is) path) (λ is. i ∷ is) (elements ns) j) (range_with_len 0 n))
    ∙ by path (inside_is ns)
  where
    by : (path : List Part) → ((path : List Part) → list_any (λ is. same_path (map Element is) path) (elements ns) ≡ is_inside ns path)
        → list_any (λ i. list_any (λ is. same_path (Element i ∷ map Element is) path) (elements ns)) (range_with_len 0 n) ≡ is_inside (n ∷ ns) path
    by [] h = (λ j. list_any (λ i. any_no (elements ns) j) (range_with_len 0 n)) ∙ any_no (range_with_len 0 n)
    by (Member m ∷ ps) h = (λ j. list_any (λ i. any_no (elements ns) j) (range_with_len 0 n)) ∙ any_no (range_with_len 0 n)
    by (Element k ∷ ps) h = (λ j. list_any (λ i. (any_front (nat_eq i k) (λ is. same_path (map Element is) ps) (elements ns) ∙ ap (λ b. nat_eq i k && b) (h ps)) j) (range_with_len 0 n))
        ∙ any_behind (is_inside ns ps) (λ i. nat_eq i k) (range_with_len 0 n) ∙ ap (λ b. b && is_inside ns ps) (below n k)

module _ (o n : ℕ) (l : Location) where
  abbrev among : List (List Part) → Bool
  among ps = list_any (λ q. same (local_of o n q) l) ps

  among_is : (sizes : List ℕ) → among (elements_at [] sizes) ≡ is_element o n sizes l
  among_is sizes = any_front (same_root (Local o [] n) l.root) (λ q. same_path q l.path) (elements_at [] sizes)
      ∙ ap (λ b. same_root (Local o [] n) l.root && b) (any_map (λ q. same_path q l.path) (λ is. [] ++ map Element is) (elements sizes) ∙ inside_is sizes l.path)

  words_among : (ps : List (List Part)) (g : Grown) → (all_cleared true o n ps g).store.words l ≡ (if among ps then 0 else g.store.words l)
  words_among [] g = refl
  words_among (p ∷ ps) g = words_among ps (with_word g (local_of o n p) 0) ∙ or_both (same (local_of o n p) l) (among ps) 0 (g.store.words l)

  targets_among : (ps : List (List Part)) (g : Grown) → (all_cleared false o n ps g).store.targets l ≡ (if among ps then None else g.store.targets l)
  targets_among [] g = refl
  targets_among (p ∷ ps) g = targets_among ps (with_target g (local_of o n p) None) ∙ or_both (same (local_of o n p) l) (among ps) None (g.store.targets l)

  pub words_cleared : (sizes : List ℕ) (g : Grown) → (all_cleared true o n (elements_at [] sizes) g).store.words l ≡ (if is_element o n sizes l then 0 else g.store.words l)
  words_cleared sizes g = words_among (elements_at [] sizes) g ∙ ap (λ b. if b then 0 else g.store.words l) (among_is sizes)

  pub targets_cleared : (sizes : List ℕ) (g : Grown) → (all_cleared false o n (elements_at [] sizes) g).store.targets l ≡ (if is_element o n sizes l then None else g.store.targets l)
  targets_cleared sizes g = targets_among (elements_at [] sizes) g ∙ ap (λ b. if b then None else g.store.targets l) (among_is sizes)

pub words_stay : (o n : ℕ) (ps : List (List Part)) (g : Grown) → (all_cleared false o n ps g).store.words ≡ g.store.words
words_stay o n [] g = refl
words_stay o n (p ∷ ps) g = words_stay o n ps (with_target g (local_of o n p) None)

pub targets_stay : (o n : ℕ) (ps : List (List Part)) (g : Grown) → (all_cleared true o n ps g).store.targets ≡ g.store.targets
targets_stay o n [] g = refl
targets_stay o n (p ∷ ps) g = targets_stay o n ps (with_word g (local_of o n p) 0)
