-- The elements of arrays.
use Rattle.std.proofs.Common.{◌≡◌, ℕ, zero, suc, ◌+◌, ◌-◌, ◌*◌, ◌^◌, ◌≤◌, ◌<◌, Bool, true, false, ◌&&◌, ◌||◌, nat_eq, nat_lt, cond, List, [], ◌∷◌, ◌++◌, map, flat_map, refl, ap, ◌∙◌, arith}
use Rattle.std.specs.Prelude.{pos, negsuc}
use Rattle.std.specs.List.{list_any, range_with_len}
use Rattle.std.proofs.lemmas.Bool.{eq-eqb, eqb-true, lt-ltb, ltb-true}
use Rattle.std.proofs.Math.Nat.{mod-eq_of_lt}
use Rattle.scc_bits_kinds.specs.declared.kind.Kind.TheVariants as kind
use Rattle.scc_bits_kinds.specs.Numbers.{low}
use Rattle.scc_semantics.specs.Location.{Part, Member, Element, same_path}
use Rattle.scc_semantics.specs.Scene.{index_of}
use Rattle.scc_elab_spec.specs.Bodies.{elements}
use Rattle.scc_elab_spec.specs.Worth.{is_inside}
use Rattle.scc_inline_laws.specs.Orderly.{AreSmall}

abbrev pub Each : {A : Type 0} → (A → Type 0) → List A → Type 0
Each P [] = Unit {0}
Each P (x ∷ xs) = P x × Each P xs

pub each-append : {A : Type 0} (P : A → Type 0) (xs ys : List A) → Each P xs → Each P ys → Each P (xs ++ ys)
each-append P [] ys a b = b
each-append P (x ∷ xs) ys a b = (a.0, each-append P xs ys a.1 b)

pub each-map : {A B : Type 0} (P : B → Type 0) (f : A → B) (xs : List A) → Each (λ x. P (f x)) xs → Each P (map f xs)
each-map P f [] a = tt
each-map P f (x ∷ xs) a = (a.0, each-map P f xs a.1)

pub each-flat : {A B : Type 0} (P : B → Type 0) (f : A → List B) (xs : List A) → Each (λ x. Each P (f x)) xs → Each P (flat_map f xs)
each-flat P f [] a = tt
each-flat P f (x ∷ xs) a = each-append P (f x) (flat_map f xs) a.0 (each-flat P f xs a.1)

pub each-range : (P : ℕ → Type 0) (a n : ℕ) → ((k : ℕ) → k < a + n → P k) → Each P (range_with_len a n)
each-range P a zero f = tt
each-range P a (suc n) f = (f a (omega arith), each-range P (a + 1) n (λ k l. f k (omega (arith, l))))

pub each-by : {A : Type 0} (P Q : A → Type 0) → ((x : A) → P x → Q x) → (xs : List A) → Each P xs → Each Q xs
each-by P Q f [] a = tt
each-by P Q f (x ∷ xs) a = (f x a.0, each-by P Q f xs a.1)

-- a small index is itself
small-index : (i : ℕ) → i < 2 ^ 31 → index_of (kind.Native 32 true) i ≡ i
small-index i l = ap (λ b. low 128 (cond b (pos i) (negsuc (4294967295 - i)))) (lt-ltb (2 * i) (2 ^ 32) (omega (arith, l))) ∙ mod-eq_of_lt (omega (arith, l))

abbrev pub Small : List ℕ → Type 0
Small [] = Unit {0}
Small (i ∷ is) = (index_of (kind.Native 32 true) i ≡ i) × Small is

pub inside-elements : (sizes : List ℕ) → AreSmall sizes → Each (λ is. (is_inside sizes (map Element is) ≡ true) × Small is) (elements sizes)
inside-elements [] s = ((refl, tt), tt)
inside-elements (n ∷ ns) s = each-flat (λ is. (is_inside (n ∷ ns) (map Element is) ≡ true) × Small is) (λ i. map (λ is. i ∷ is) (elements ns)) (range_with_len 0 n)
    (each-range (λ i. Each (λ is. (is_inside (n ∷ ns) (map Element is) ≡ true) × Small is) (map (λ is. i ∷ is) (elements ns))) 0 n (λ i l.
    each-map (λ is. (is_inside (n ∷ ns) (map Element is) ≡ true) × Small is) (λ is. i ∷ is) (elements ns)
    (each-by (λ is. (is_inside ns (map Element is) ≡ true) × Small is) (λ is. (is_inside (n ∷ ns) (map Element (i ∷ is)) ≡ true) × Small (i ∷ is))
    (λ is x. (ap (λ b. b && is_inside ns (map Element is)) (lt-ltb i n (omega (arith, l))) ∙ x.0, (small-index i (omega (arith, l, s.0)), x.1))) (elements ns) (inside-elements ns s.1))))

pub any-append : {A : Type 0} (p : A → Bool) (xs ys : List A) → list_any p (xs ++ ys) ≡ (list_any p xs || list_any p ys)
any-append p [] ys = refl
any-append p (x ∷ xs) ys = by (p x) (any-append p xs ys)
  where
    by : (b : Bool) → list_any p (xs ++ ys) ≡ (list_any p xs || list_any p ys) → (b || list_any p (xs ++ ys)) ≡ ((b || list_any p xs) || list_any p ys)
    by true ih = refl
    by false ih = ih

pub any-map : {A B : Type 0} (p : B → Bool) (f : A → B) (xs : List A) → list_any p (map f xs) ≡ list_any (λ x. p (f x)) xs
any-map p f [] = refl
any-map p f (x ∷ xs) = ap (λ b. p (f x) || b) (any-map p f xs)

any-flat : {A B : Type 0} (p : B → Bool) (f : A → List B) (xs : List A) → list_any p (flat_map f xs) ≡ list_any (λ x. list_any p (f x)) xs
any-flat p f [] = refl
any-flat p f (x ∷ xs) = any-append p (f x) (flat_map f xs) ∙ ap (λ b. list_any p (f x) || b) (any-flat p f xs)

any-none : {A : Type 0} (p : A → Bool) (xs : List A) → ((x : A) → p x ≡ false) → list_any p xs ≡ false
any-none p [] f = refl
any-none p (x ∷ xs) f = ap (λ b. b || list_any p xs) (f x) ∙ any-none p xs f

any-and : {A : Type 0} (a : Bool) (p : A → Bool) (xs : List A) → list_any (λ x. a && p x) xs ≡ (a && list_any p xs)
any-and true p xs = refl
any-and false p xs = any-none (λ x. false) xs (λ x. refl)

range-out : (p : ℕ → Bool) (a n : ℕ) → ((i : ℕ) → i < a + n → p i ≡ false) → list_any p (range_with_len a n) ≡ false
range-out p a zero f = refl
range-out p a (suc n) f = ap (λ b. b || list_any p (range_with_len (a + 1) n)) (f a (omega arith)) ∙ range-out p (a + 1) n (λ i l. f i (omega (arith, l)))

range-in : (p : ℕ → Bool) (a n j : ℕ) → a ≤ j → j < a + n → p j ≡ true → list_any p (range_with_len a n) ≡ true
range-in p a zero j l m e = absurd (omega (arith, l, m))
range-in p a (suc n) j l m e = by (nat_eq a j) refl (λ l. range-in p (a + 1) n j l (omega (arith, m)) e)
  where
    or-true : (b : Bool) → (b || true) ≡ true
    or-true true = refl
    or-true false = refl

    by : (b : Bool) → nat_eq a j ≡ b → ((a + 1) ≤ j → list_any p (range_with_len (a + 1) n) ≡ true) → (p a || list_any p (range_with_len (a + 1) n)) ≡ true
    by true t ih = ap (λ b. b || list_any p (range_with_len (a + 1) n)) (ap p (eqb-true a j t) ∙ e)
    by false t ih = ap (λ b. p a || b) (ih (further (λ x. let y = eq-eqb a j x in cc))) ∙ or-true (p a)
      where
        further : ((a ≡ j) → ⊥) → (a + 1) ≤ j
        further x = omega (arith, l, x)

-- an element is listed where it is inside
pub listed-inside : (sizes : List ℕ) (path : List Part) → list_any (λ is. same_path (map Element is) path) (elements sizes) ≡ is_inside sizes path
listed-inside [] [] = refl
listed-inside [] (x ∷ path) = refl
listed-inside (n ∷ ns) path = any-flat (λ is. same_path (map Element is) path) (λ i. map (λ is. i ∷ is) (elements ns)) (range_with_len 0 n) ∙ by path (λ path. listed-inside ns path)
  where
    each : (path : List Part) (f : ℕ → Bool) → ((i : ℕ) → list_any (λ is. same_path (map Element is) path) (map (λ is. i ∷ is) (elements ns)) ≡ f i)
        → list_any (λ i. list_any (λ is. same_path (map Element is) path) (map (λ is. i ∷ is) (elements ns))) (range_with_len 0 n) ≡ list_any f (range_with_len 0 n)
    each path f e = λ z. list_any (λ i. e i z) (range_with_len 0 n)

    by : (path : List Part) → ((path : List Part) → list_any (λ is. same_path (map Element is) path) (elements ns) ≡ is_inside ns path)
        → list_any (λ i. list_any (λ is. same_path (map Element is) path) (map (λ is. i ∷ is) (elements ns))) (range_with_len 0 n) ≡ is_inside (n ∷ ns) path
    by [] ih = each [] (λ i. false) (λ i. any-map (λ is. same_path (map Element is) []) (λ is. i ∷ is) (elements ns) ∙ any-none (λ is. false) (elements ns) (λ x. refl)) ∙ range-out (λ i. false) 0 n (λ i l. refl)
    by (Member m ∷ path) ih = each (Member m ∷ path) (λ i. false) (λ i. any-map (λ is. same_path (map Element is) (Member m ∷ path)) (λ is. i ∷ is) (elements ns) ∙ any-none (λ is. false) (elements ns) (λ x. refl)) ∙ range-out (λ i. false) 0 n (λ i l. refl)
    by (Element j ∷ path) ih = each (Element j ∷ path) (λ i. nat_eq i j && is_inside ns path) (λ i. any-map (λ is. same_path (map Element is) (Element j ∷ path)) (λ is. i ∷ is) (elements ns)
        ∙ (any-and (nat_eq i j) (λ is. same_path (map Element is) path) (elements ns) ∙ ap (λ b. nat_eq i j && b) (ih path))) ∙ go (is_inside ns path) (nat_lt j n) refl
      where
        off : (b : Bool) → (b && false) ≡ false
        off true = refl
        off false = refl

        apart : (i : ℕ) (b : Bool) → nat_eq i j ≡ b → nat_lt j n ≡ false → i < n → b ≡ false
        apart i true e f l = let x : i ≡ j = eqb-true i j e in let y = lt-ltb j n (omega (arith, x, l)) in cc
        apart i false e f l = refl

        go : (c b : Bool) → nat_lt j n ≡ b → list_any (λ i. nat_eq i j && c) (range_with_len 0 n) ≡ (b && c)
        go true true e = range-in (λ i. nat_eq i j && true) 0 n j (omega arith) (let x = ltb-true j n e in omega (arith, x)) (ap (λ b. b && true) (eq-eqb j j refl))
        go false true e = range-out (λ i. nat_eq i j && false) 0 n (λ i l. off (nat_eq i j))
        go c false e = range-out (λ i. nat_eq i j && c) 0 n (λ i l. ap (λ b. b && c) (apart i (nat_eq i j) refl e (omega (arith, l))))
