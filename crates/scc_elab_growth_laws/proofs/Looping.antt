-- Elements of arrays and vectors: each has a path of its own.
use Rattle.std.proofs.Common.{◌≡◌, ℕ, zero, suc, ◌+◌, ◌<◌, ◌≤◌, true, false, List, [], ◌∷◌, ◌++◌, map, length, length-append, ap, refl, sym, ◌∙◌, arith}
use Rattle.std.specs.Prelude.{flat_map}
use Rattle.std.specs.List.{range_with_len}
use Rattle.scc_semantics.specs.Location.{Part, Element}
use Rattle.scc_core_spec.specs.Resolved.{Tried}
use Rattle.scc_elab_spec.specs.Program.{Plain}
use Rattle.scc_elab_spec.specs.Design.{Object}
use Rattle.scc_elab_spec.specs.Bodies.{elements}
use Rattle.scc_elab_spec.specs.Grown.{Grown}
use Rattle.scc_elab_spec.specs.Made.{over_elements, elements_at}
use Rattle.scc_elab_growth_laws.specs.Changes.{Grows}
use Rattle.scc_elab_growth_laws.specs.Apart.{Behind}
use Rattle.scc_elab_growth_laws.proofs.Paths.{Separate, separate, element-behind, elements-behind}
use Rattle.scc_elab_growth_laws.proofs.Keeping.{Adds, Closed, SameKeeps, keeps-same, same-then, to-more}

module _ {X : Type 0} (at : X → List Part) where
  abbrev pub ApartFrom : List Part → List X → Type 0
  ApartFrom p [] = Unit {0}
  ApartFrom p (x ∷ xs) = Separate p (at x) × ApartFrom p xs

  abbrev pub AllSeparate : List X → Type 0
  AllSeparate [] = Unit {0}
  AllSeparate (x ∷ xs) = ApartFrom (at x) xs × AllSeparate xs

  abbrev pub AllBehind : List Part → List X → Type 0
  AllBehind p [] = Unit {0}
  AllBehind p (x ∷ xs) = Behind p (at x) × AllBehind p xs

  -- what holds at each path
  abbrev pub AllAt : (List Part → Type 0) → List X → Type 0
  AllAt P [] = Unit {0}
  AllAt P (x ∷ xs) = P (at x) × AllAt P xs

  pub all-behind : (P : List Part → Type 0) (p : List Part) → ((q : List Part) → Behind p q → P q) → (xs : List X) → AllBehind p xs → AllAt P xs
  all-behind P p f [] a = tt
  all-behind P p f (x ∷ xs) a = (f (at x) a.0, all-behind P p f xs a.1)

-- one after another, each of which adds only what lies behind its path
module _ (p : Plain) (At : Grown → List Part → Type 0) (A : List Part → Object → Type 0) (closed : (x : List Part) → Closed (A x)) (inside : (x y : List Part) → Behind x y → (o : Object) → A y o → A x o)
    (kept : (g h : Grown) (x y : List Part) → Grows p g h → Adds (A x) g h → Separate x y → At g y → At h y) where
  module _ {X : Type 0} (at : X → List Part) (I : Grown → Type 0) (later : (g h : Grown) → Grows p g h → I g → I h) (f e : Grown → X → Tried Grown)
      (each : (g : Grown) (x : X) → I g → SameKeeps p (At g (at x)) (A (at x)) g (f g x) (e g x)) (base : List Part) where
    all-kept : (g h : Grown) (q : List Part) → Grows p g h → Adds (A q) g h → (xs : List X) → ApartFrom at q xs → AllAt at (At g) xs → AllAt at (At h) xs
    all-kept g h q grows adds [] a b = tt
    all-kept g h q grows adds (x ∷ xs) a b = (kept g h q (at x) grows adds a.0 b.0, all-kept g h q grows adds xs a.1 b.1)

    abbrev Ready : Grown → List X → Type 0
    Ready g xs = AllAt at (At g) xs × AllSeparate at xs

    pub over-same : (xs : List X) → AllBehind at base xs → (g : Grown) → I g → SameKeeps p (AllAt at (At g) xs × AllSeparate at xs) (A base) g (over_elements f xs g) (over_elements e xs g)
    over-same [] b g i = (refl, keeps-same p (A base) (Unit {0} × Unit {0}) g)
    over-same (x ∷ xs) b g i = same-then p (Ready g (x ∷ xs)) (A base) g (A (at x)) (closed base) (inside base (at x) b.0) (λ h. Ready h xs) (f g x) (e g x) (over_elements f xs) (over_elements e xs)
        (let z = each g x i in (z.0, to-more p (At g (at x)) (A (at x)) g (A (at x)) (Ready g (x ∷ xs)) (λ o a. a) (λ pre. pre.0.0) (f g x) z.1))
        (λ h grows whole apart more adds pre. (all-kept g h (at x) grows adds xs pre.1.0 pre.0.1, pre.1.1))
        (λ h grows. over-same xs b.1 h (later g h grows i))

-- the elements of a vector
abbrev pub element : List Part → ℕ → List Part
element q i = q ++ Element i ∷ []

same-element : (q : List Part) (i j : ℕ) → element q i ≡ element q j → i ≡ j
same-element [] i j e = cc
same-element (a ∷ q) i j e = same-element q i j cc

unequal : (i j k : ℕ) → i ≡ j → i < k → k ≤ j → true ≡ false
unequal i j k e a b = absurd (omega arith)

one_less : (i k : ℕ) → i < k → i < k + 1
one_less i k a = omega arith

itself : (i : ℕ) → i ≤ i
itself i = omega arith

before_next : (i : ℕ) → i < i + 1
before_next i = omega arith

pub vector-behind : (q : List Part) (k n : ℕ) → AllBehind (element q) q (range_with_len k n)
vector-behind q k zero = tt
vector-behind q k (suc n) = (element-behind q k, vector-behind q (k + 1) n)

apart-elements : (q : List Part) (i k n : ℕ) → i < k → ApartFrom (element q) (element q i) (range_with_len k n)
apart-elements q i k zero a = tt
apart-elements q i k (suc n) a = (
  separate (element q i) (element q k) (length-append q (Element i ∷ []) ∙ sym (length-append q (Element k ∷ []))) (λ e. unequal i k k (same-element q i k e) a (itself k)),
  apart-elements q i (k + 1) n (one_less i k a),
)

pub vector-separate : (q : List Part) (k n : ℕ) → AllSeparate (element q) (range_with_len k n)
vector-separate q k zero = tt
vector-separate q k (suc n) = (apart-elements q k (k + 1) n (before_next k), vector-separate q (k + 1) n)

-- indices of equal length that differ
abbrev Differ : List ℕ → List ℕ → Type 0
Differ is js = (length is ≡ length js) × (is ≡ js → true ≡ false)

abbrev DifferFrom : List ℕ → List (List ℕ) → Type 0
DifferFrom is [] = Unit {0}
DifferFrom is (js ∷ all) = Differ is js × DifferFrom is all

abbrev AllDiffer : List (List ℕ) → Type 0
AllDiffer [] = Unit {0}
AllDiffer (is ∷ all) = DifferFrom is all × AllDiffer all

abbrev AllLong : ℕ → List (List ℕ) → Type 0
AllLong n [] = Unit {0}
AllLong n (is ∷ all) = (length is ≡ n) × AllLong n all

long-append : (n : ℕ) (all more : List (List ℕ)) → AllLong n all → AllLong n more → AllLong n (all ++ more)
long-append n [] more a b = b
long-append n (is ∷ all) more a b = (a.0, long-append n all more a.1 b)

long-map : (n i : ℕ) (all : List (List ℕ)) → AllLong n all → AllLong (suc n) (map (λ is. i ∷ is) all)
long-map n i [] a = tt
long-map n i (is ∷ all) a = (ap suc a.0, long-map n i all a.1)

abbrev rows : List (List ℕ) → ℕ → ℕ → List (List ℕ)
rows all k n = flat_map (λ i. map (λ is. i ∷ is) all) (range_with_len k n)

long-rows : (m : ℕ) (all : List (List ℕ)) → AllLong m all → (k n : ℕ) → AllLong (suc m) (rows all k n)
long-rows m all a k zero = tt
long-rows m all a k (suc n) = long-append (suc m) (map (λ is. k ∷ is) all) (rows all (k + 1) n) (long-map m k all a) (long-rows m all a (k + 1) n)

long-elements : (sizes : List ℕ) → AllLong (length sizes) (elements sizes)
long-elements [] = (refl, tt)
long-elements (n ∷ ns) = long-rows (length ns) (elements ns) (long-elements ns) 0 n

from-append : (is : List ℕ) (all more : List (List ℕ)) → DifferFrom is all → DifferFrom is more → DifferFrom is (all ++ more)
from-append is [] more a b = b
from-append is (js ∷ all) more a b = (a.0, from-append is all more a.1 b)

-- indices that begin otherwise
from-others : (i j m : ℕ) (is : List ℕ) → (i ≡ j → true ≡ false) → length is ≡ m → (all : List (List ℕ)) → AllLong m all → DifferFrom (i ∷ is) (map (λ is. j ∷ is) all)
from-others i j m is f e [] a = tt
from-others i j m is f e (js ∷ all) a = ((ap suc (e ∙ sym a.0), λ same. f cc), from-others i j m is f e all a.1)

from-rows : (i m : ℕ) (is : List ℕ) → length is ≡ m → (all : List (List ℕ)) → AllLong m all → (k n : ℕ) → i < k → DifferFrom (i ∷ is) (rows all k n)
from-rows i m is e all a k zero b = tt
from-rows i m is e all a k (suc n) b = from-append (i ∷ is) (map (λ is. k ∷ is) all) (rows all (k + 1) n) (from-others i k m is (λ same. unequal i k k same b (itself k)) e all a) (from-rows i m is e all a (k + 1) n (one_less i k b))

from-same : (i : ℕ) (is : List ℕ) (all : List (List ℕ)) → DifferFrom is all → DifferFrom (i ∷ is) (map (λ is. i ∷ is) all)
from-same i is [] a = tt
from-same i is (js ∷ all) a = ((ap suc a.0.0, λ same. a.0.1 cc), from-same i is all a.1)

-- the rows of one index, in front of those of greater ones
row-differ : (k m n : ℕ) (all row : List (List ℕ)) → AllLong m all → AllLong m row → AllDiffer row → AllDiffer (rows all (k + 1) n) → AllDiffer (map (λ is. k ∷ is) row ++ rows all (k + 1) n)
row-differ k m n all [] a b c d = d
row-differ k m n all (is ∷ row) a b c d = (
  from-append (k ∷ is) (map (λ is. k ∷ is) row) (rows all (k + 1) n) (from-same k is row c.0) (from-rows k m is b.0 all a (k + 1) n (before_next k)),
  row-differ k m n all row a b.1 c.1 d,
)

rows-differ : (m : ℕ) (all : List (List ℕ)) → AllLong m all → AllDiffer all → (k n : ℕ) → AllDiffer (rows all k n)
rows-differ m all a b k zero = tt
rows-differ m all a b k (suc n) = row-differ k m n all all a a b (rows-differ m all a b (k + 1) n)

all-differ : (sizes : List ℕ) → AllDiffer (elements sizes)
all-differ [] = (tt, tt)
all-differ (n ∷ ns) = rows-differ (length ns) (elements ns) (long-elements ns) (all-differ ns) 0 n

-- the elements of an array
abbrev pub itself-at : List Part → List Part
itself-at q = q

abbrev indexed : List Part → List ℕ → List Part
indexed q is = q ++ map Element is

same-map : (is js : List ℕ) → map Element is ≡ map Element js → is ≡ js
same-map [] [] e = refl
same-map [] (j ∷ js) e = cc
same-map (i ∷ is) [] e = cc
same-map (i ∷ is) (j ∷ js) e = let head : i ≡ j = cc in let tail : map Element is ≡ map Element js = cc in λ k. head k ∷ same-map is js tail k

same-indexed : (q : List Part) (is js : List ℕ) → indexed q is ≡ indexed q js → is ≡ js
same-indexed [] is js e = same-map is js e
same-indexed (a ∷ q) is js e = same-indexed q is js cc

map-long : (is : List ℕ) → length (map Element is) ≡ length is
map-long [] = refl
map-long (i ∷ is) = ap suc (map-long is)

indexed-apart : (q : List Part) (is : List ℕ) (all : List (List ℕ)) → DifferFrom is all → ApartFrom itself-at (indexed q is) (map (indexed q) all)
indexed-apart q is [] a = tt
indexed-apart q is (js ∷ all) a = (
  separate (indexed q is) (indexed q js) (length-append q (map Element is) ∙ ap (λ n. length q + n) (map-long is ∙ a.0.0 ∙ sym (map-long js)) ∙ sym (length-append q (map Element js))) (λ e. a.0.1 (same-indexed q is js e)),
  indexed-apart q is all a.1,
)

indexed-separate : (q : List Part) (all : List (List ℕ)) → AllDiffer all → AllSeparate itself-at (map (indexed q) all)
indexed-separate q [] a = tt
indexed-separate q (is ∷ all) a = (indexed-apart q is all a.0, indexed-separate q all a.1)

indexed-behind : (q : List Part) (all : List (List ℕ)) → AllBehind itself-at q (map (indexed q) all)
indexed-behind q [] = tt
indexed-behind q (is ∷ all) = (elements-behind q is, indexed-behind q all)

pub array-separate : (q : List Part) (sizes : List ℕ) → AllSeparate itself-at (elements_at q sizes)
array-separate q sizes = indexed-separate q (elements sizes) (all-differ sizes)

pub array-behind : (q : List Part) (sizes : List ℕ) → AllBehind itself-at q (elements_at q sizes)
array-behind q sizes = indexed-behind q (elements sizes)
