-- Paths, their members, and front parts.
use Rattle.std.proofs.Common.{◌≡◌, ℕ, zero, suc, ◌<◌, true, false, ◌&&◌, List, [], ◌∷◌, ◌++◌, map, length, Option, Some, None, slice_get, ap, refl, sym, ◌∙◌, subst, arith}
use Rattle.scc_semantics.specs.Location.{Part, Member, Element, same_part, same_path}
use Rattle.scc_elab_spec.specs.Cells.{is_front}
use Rattle.scc_elab_spec.proofs.Chains.{and-first, and-second}
use Rattle.scc_elab_spec.proofs.Regular.{same_part-is}
use Rattle.scc_elab_growth_laws.specs.Apart.{Or, First, Second, Stem, behind_part, stem, Front, Behind, Near}

pub some_same : {A : Type 0} {a b : A} → Some a ≡ Some b → a ≡ b
some_same e = cc

-- elements of a member are the member's
pub stem-element : (path : List Part) (i : ℕ) → stem path ≡ stem (path ++ Element i ∷ [])
stem-element [] i = refl
stem-element (a ∷ path) i = ap (λ s. behind_part s a) (stem-element path i)

no-stem : (is : List ℕ) → None ≡ stem (map Element is)
no-stem [] = refl
no-stem (i ∷ is) = ap (λ s. behind_part s (Element i)) (no-stem is)

pub stem-elements : (path : List Part) (is : List ℕ) → stem path ≡ stem (path ++ map Element is)
stem-elements [] is = no-stem is
stem-elements (a ∷ path) is = ap (λ s. behind_part s a) (stem-elements path is)

pub stem-member : (path : List Part) (n : ℕ) → stem (path ++ Member n ∷ []) ≡ Some (record { around = path; name = n })
stem-member [] n = refl
stem-member (a ∷ path) n = ap (λ s. behind_part s a) (stem-member path n)

-- what is around a path is shorter, and in front of it
pub stem-front : (path : List Part) (s : Stem) → stem path ≡ Some s → Front s.around path × (length s.around < length path)
stem-front [] s e = cc
stem-front (a ∷ path) s e = by (stem path) refl a e (stem-front path)
  where
    by : (t : Option Stem) → stem path ≡ t → (a : Part) → behind_part t a ≡ Some s → ((s : Stem) → stem path ≡ Some s → Front s.around path × (length s.around < length path)) → Front s.around (a ∷ path) × (length s.around < suc (length path))
    by (Some t) f a e rest = let r = rest t f in subst (λ (z : Stem). Front z.around (a ∷ path) × (length z.around < suc (length path))) (some_same e) ((refl, r.0), more (length t.around) (length path) r.1)
      where
        more : (n m : ℕ) → n < m → suc n < suc m
        more n m a = omega arith
    by None f (Member n) e rest = subst (λ (z : Stem). Front z.around (Member n ∷ path) × (length z.around < suc (length path))) (some_same e) (tt, positive (length path))
      where
        positive : (n : ℕ) → 0 < suc n
        positive n = omega arith
    by None f (Element i) e rest = cc

pub front-refl : (p : List Part) → Front p p
front-refl [] = tt
front-refl (a ∷ p) = (refl, front-refl p)

pub front-trans : (p q r : List Part) → Front p q → Front q r → Front p r
front-trans [] q r a b = tt
front-trans (x ∷ p) (y ∷ q) (z ∷ r) a b = (a.0 ∙ b.0, front-trans p q r a.1 b.1)
front-trans (x ∷ p) (y ∷ q) [] a b = absurd b
front-trans (x ∷ p) [] r a b = absurd a

pub front-more : (p q : List Part) → Front p (p ++ q)
front-more [] q = tt
front-more (a ∷ p) q = (refl, front-more p q)

-- two fronts of one path
pub front-either : (p q r : List Part) → Front p r → Front q r → Or (Front p q) (Front q p)
front-either [] q r a b = First tt
front-either (x ∷ p) [] r a b = Second tt
front-either (x ∷ p) (y ∷ q) [] a b = absurd a
front-either (x ∷ p) (y ∷ q) (z ∷ r) a b = by (front-either p q r a.1 b.1)
  where
    by : Or (Front p q) (Front q p) → Or (Front (x ∷ p) (y ∷ q)) (Front (y ∷ q) (x ∷ p))
    by (First c) = First (a.0 ∙ sym b.0, c)
    by (Second c) = Second (b.0 ∙ sym a.0, c)

suc-same : (n m : ℕ) → suc n ≡ suc m → n ≡ m
suc-same n m e = omega arith

zero-not : (n : ℕ) → zero ≡ suc n → true ≡ false
zero-not n e = absurd (omega arith)

pub front-same : (p q : List Part) → Front p q → length p ≡ length q → p ≡ q
front-same [] [] a e = refl
front-same [] (y ∷ q) a e = let z : true ≡ false = zero-not (length q) e in absurd cc
front-same (x ∷ p) [] a e = absurd a
front-same (x ∷ p) (y ∷ q) a e = λ i. a.0 i ∷ front-same p q a.1 (suc-same (length p) (length q) e) i

pub is_front-is : (p q : List Part) → is_front p q ≡ true → Front p q
is_front-is [] q e = tt
is_front-is (a ∷ p) [] e = cc
is_front-is (a ∷ p) (b ∷ q) e = (same_part-is a b (and-first (same_part a b) (is_front p q) e), is_front-is p q (and-second (same_part a b) (is_front p q) e))

pub same_part-refl : (a : Part) → same_part a a ≡ true
same_part-refl (Member n) = grind arith
same_part-refl (Element n) = grind arith

pub same_path-refl : (p : List Part) → same_path p p ≡ true
same_path-refl [] = refl
same_path-refl (a ∷ p) = (λ i. same_part-refl a i && same_path-refl p i)

pub front-is_front : (p q : List Part) → Front p q → is_front p q ≡ true
front-is_front [] q a = refl
front-is_front (x ∷ p) [] a = absurd a
front-is_front (x ∷ p) (y ∷ q) a = λ i. (ap (same_part x) (sym a.0) ∙ same_part-refl x) i && front-is_front p q a.1 i

pub near-sym : (p q : List Part) → Near p q → Near q p
near-sym p q (First a) = Second a
near-sym p q (Second a) = First a

pub near-stem : (p q : List Part) → Near p q → stem p ≡ stem q
near-stem p q (First a) = a.0
near-stem p q (Second a) = sym a.0

pub behind-refl : (p : List Part) → Behind p p
behind-refl p = (refl, front-refl p)

pub near-refl : (p : List Part) → Near p p
near-refl p = First (behind-refl p)

pub behind-trans : (p q r : List Part) → Behind p q → Behind q r → Behind p r
behind-trans p q r a b = (a.0 ∙ b.0, front-trans p q r a.1 b.1)

-- what is near something behind a path is near the path
pub near-behind : (p q r : List Part) → Behind p q → Near q r → Near p r
near-behind p q r a (First b) = First (behind-trans p q r a b)
near-behind p q r a (Second b) = by (front-either p r q a.1 b.1)
  where
    by : Or (Front p r) (Front r p) → Near p r
    by (First c) = First (a.0 ∙ sym b.0, c)
    by (Second c) = Second (b.0 ∙ sym a.0, c)

pub element-behind : (p : List Part) (i : ℕ) → Behind p (p ++ Element i ∷ [])
element-behind p i = (stem-element p i, front-more p (Element i ∷ []))

pub elements-behind : (p : List Part) (is : List ℕ) → Behind p (p ++ map Element is)
elements-behind p is = (stem-elements p is, front-more p (map Element is))

-- no path is behind one and near the other
abbrev pub Separate : List Part → List Part → Type 0
Separate p q = (r : List Part) → Behind p r → Near q r → true ≡ false

pub separate : (p q : List Part) → length p ≡ length q → (p ≡ q → true ≡ false) → Separate p q
separate p q e f r a b = by (near-behind p r q a (near-sym q r b))
  where
    by : Near p q → true ≡ false
    by (First c) = f (front-same p q c.1 e)
    by (Second c) = f (sym (front-same q p c.1 (sym e)))

-- an entry of a list that is one longer
pub snoc-at : {A : Type 0} (xs : List A) (x : A) (i : ℕ) (y : A) → slice_get (xs ++ x ∷ []) i ≡ Some y → Or (slice_get xs i ≡ Some y) ((i ≡ length xs) × (x ≡ y))
snoc-at [] x zero y e = Second (refl, some_same e)
snoc-at [] x (suc i) y e = cc
snoc-at (z ∷ zs) x zero y e = First e
snoc-at (z ∷ zs) x (suc i) y e = by (snoc-at zs x i y e)
  where
    by : Or (slice_get zs i ≡ Some y) ((i ≡ length zs) × (x ≡ y)) → Or (slice_get zs i ≡ Some y) ((suc i ≡ suc (length zs)) × (x ≡ y))
    by (First e) = First e
    by (Second e) = Second (ap suc e.0, e.1)
