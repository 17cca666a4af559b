-- An index that isn't static names what each index in its place names.
use Rattle.std.proofs.Common.{◌≡◌, ◌<◌, ◌+◌, ◌*◌, ℕ, zero, suc, Bool, true, false, List, [], ◌∷◌, ◌++◌, append_assoc, refl, sym, ap, ◌∙◌, arith, if◌then◌else◌}
use Rattle.std.specs.Prelude.{not, ◌&&◌, ◌||◌, nat_eq, nat_lt}
use Rattle.std.specs.List.{list_any, range_with_len}
use Rattle.std.proofs.lemmas.Bool.Decides.{nat_tests}
use Rattle.std.proofs.lemmas.List.Folds.{list_any-append}
use Rattle.scc_core_spec.specs.IsResolved.{cells_apart}
use Rattle.scc_core_spec.specs.Named.{Step, Named, At, Ours, Open, cells_at, fits, is_open, names_cell, steps_of}
use Rattle.scc_core_spec.specs.Program as program
use Rattle.scc_core_spec.specs.Program.{is_pointer}
use Rattle.scc_core_spec.specs.Static.{Cells}
use Rattle.scc_core_spec.specs.Uses.{among}
use Rattle.scc_states_named_laws.specs.Arrays.{AreUnder, StandsInRows, each_of, rows_of, size_of}
use Rattle.scc_states_named_laws.proofs.Closed.{list_of, one_or_none}
use Rattle.scc_states_named_laws.proofs.Names.{closed_on}

-- ---- tests over lists

none_any : {A : Type 0} (xs : List A) → list_any (λ x. false) xs ≡ false
none_any [] = refl
none_any (x ∷ xs) = none_any xs

and_none : (b : Bool) → (b && false) ≡ false
and_none true = refl
and_none false = refl

any_and : {A : Type 0} (b : Bool) (f : A → Bool) (xs : List A) → list_any (λ x. b && f x) xs ≡ (b && list_any f xs)
any_and true f xs = refl
any_and false f xs = none_any xs

any_behind : {A : Type 0} (b : Bool) (f : A → Bool) (xs : List A) → list_any (λ x. f x && b) xs ≡ (list_any f xs && b)
any_behind b f [] = refl
any_behind b f (x ∷ xs) = ap (λ z. (f x && b) || z) (any_behind b f xs) ∙ spread (f x) (list_any f xs) b
  where
    spread : (p q b : Bool) → ((p && b) || (q && b)) ≡ ((p || q) && b)
    spread true q true = refl
    spread true q false = and_none q
    spread false q b = refl

any_or : {A : Type 0} (f g : A → Bool) (xs : List A) → list_any (λ x. f x || g x) xs ≡ (list_any f xs || list_any g xs)
any_or f g [] = refl
any_or f g (x ∷ xs) = ap (λ z. (f x || g x) || z) (any_or f g xs) ∙ mixed (f x) (g x) (list_any f xs) (list_any g xs)
  where
    mixed : (a b c d : Bool) → ((a || b) || (c || d)) ≡ ((a || c) || (b || d))
    mixed true b c d = refl
    mixed false true true d = refl
    mixed false true false d = refl
    mixed false false c d = refl

any_same : {A : Type 0} (f g : A → Bool) → ((x : A) → f x ≡ g x) → (xs : List A) → list_any f xs ≡ list_any g xs
any_same f g h [] = refl
any_same f g h (x ∷ xs) = ap (λ b. b || list_any f xs) (h x) ∙ ap (λ b. g x || b) (any_same f g h xs)

-- ---- names

abbrev alike : Step → Step → Bool
alike (Named n) (Named m) = nat_eq n m
alike (Named n) (At m) = false
alike (Named n) (Ours m) = false
alike (Named n) (Open m) = false
alike (At n) (Named m) = false
alike (At n) (At m) = nat_eq n m
alike (At n) (Ours m) = false
alike (At n) (Open m) = false
alike (Ours n) (Named m) = false
alike (Ours n) (At m) = false
alike (Ours n) (Ours m) = nat_eq n m
alike (Ours n) (Open m) = false
alike (Open n) (Named m) = false
alike (Open n) (At m) = nat_lt m n
alike (Open n) (Ours m) = false
alike (Open n) (Open m) = false

fits_more : (h r : Step) (a b : List Step) → fits (h ∷ a) (r ∷ b) ≡ (alike h r && fits a b)
fits_more (Named n) (Named m) a b = refl
fits_more (Named n) (At m) a b = refl
fits_more (Named n) (Ours m) a b = refl
fits_more (Named n) (Open m) a b = refl
fits_more (At n) (Named m) a b = refl
fits_more (At n) (At m) a b = refl
fits_more (At n) (Ours m) a b = refl
fits_more (At n) (Open m) a b = refl
fits_more (Ours n) (Named m) a b = refl
fits_more (Ours n) (At m) a b = refl
fits_more (Ours n) (Ours m) a b = refl
fits_more (Ours n) (Open m) a b = refl
fits_more (Open n) (Named m) a b = refl
fits_more (Open n) (At m) a b = refl
fits_more (Open n) (Ours m) a b = refl
fits_more (Open n) (Open m) a b = refl

fits_end : (h : Step) (a : List Step) → fits (h ∷ a) [] ≡ false
fits_end (Named n) a = refl
fits_end (At n) a = refl
fits_end (Ours n) a = refl
fits_end (Open n) a = refl

in_range : (a n i : ℕ) → list_any (λ j. nat_eq j i) (range_with_len a n) ≡ (not (nat_lt i a) && nat_lt i (a + n))
in_range a zero i = grind (arith, nat_tests)
in_range a (suc n) i = ap (λ b. nat_eq a i || b) (in_range (a + 1) n i) ∙ one_more a n i
  where
    one_more : (a n i : ℕ) → (nat_eq a i || (not (nat_lt i (a + 1)) && nat_lt i (a + 1 + n))) ≡ (not (nat_lt i a) && nat_lt i (a + suc n))
    one_more a n i = grind (arith, nat_tests)

from_start : (n i : ℕ) → (not (nat_lt i 0) && nat_lt i (0 + n)) ≡ nat_lt i n
from_start n i = grind (arith, nat_tests)

spans : (q ps name : List Step) (s : ℕ) → fits (q ++ Open s ∷ ps) name ≡ list_any (λ j. fits (q ++ At j ∷ ps) name) (range_with_len 0 s)
spans [] ps [] s = sym (none_any (range_with_len 0 s))
spans [] ps (Named n ∷ name) s = sym (none_any (range_with_len 0 s))
spans [] ps (Ours n ∷ name) s = sym (none_any (range_with_len 0 s))
spans [] ps (Open n ∷ name) s = sym (none_any (range_with_len 0 s))
spans [] ps (At i ∷ name) s =
    ap (λ b. b && fits ps name) (sym (in_range 0 s i ∙ from_start s i)) ∙ sym (any_behind (fits ps name) (λ j. nat_eq j i) (range_with_len 0 s))
spans (h ∷ q) ps [] s = fits_end h (q ++ Open s ∷ ps) ∙ sym (any_same _ (λ j. false) (λ j. fits_end h (q ++ At j ∷ ps)) (range_with_len 0 s) ∙ none_any (range_with_len 0 s))
spans (h ∷ q) ps (r ∷ name) s =
    fits_more h r (q ++ Open s ∷ ps) name
    ∙ ap (λ b. alike h r && b) (spans q ps name s)
    ∙ sym (any_and (alike h r) (λ j. fits (q ++ At j ∷ ps) name) (range_with_len 0 s))
    ∙ any_same _ _ (λ j. sym (fits_more h r (q ++ At j ∷ ps) name)) (range_with_len 0 s)

-- ---- cells

met : (x n : ℕ) (b : Bool) (ns : List ℕ) → among x (if b then n ∷ ns else ns) ≡ ((b && nat_eq x n) || among x ns)
met x n true ns = refl
met x n false ns = refl

open_cells : (x n : ℕ) (q ps : List Step) (s : ℕ) (cs : List program.Cell)
    → among x (cells_at n (q ++ Open s ∷ ps) cs) ≡ list_any (λ j. among x (cells_at n (q ++ At j ∷ ps) cs)) (range_with_len 0 s)
open_cells x n q ps s [] = sym (none_any (range_with_len 0 s))
open_cells x n q ps s (c ∷ cs) =
    let R = range_with_len 0 s in
    let e = nat_eq x n in
    let p = not (is_pointer c.sort) in
    met x n (names_cell false (q ++ Open s ∷ ps) c) (cells_at (n + 1) (q ++ Open s ∷ ps) cs)
    ∙ ap (λ b. ((b && p) && e) || among x (cells_at (n + 1) (q ++ Open s ∷ ps) cs)) (spans q ps (steps_of c.name) s)
    ∙ ap (λ b. (b && e) || among x (cells_at (n + 1) (q ++ Open s ∷ ps) cs)) (sym (any_behind p (λ j. fits (q ++ At j ∷ ps) (steps_of c.name)) R))
    ∙ ap (λ b. b || among x (cells_at (n + 1) (q ++ Open s ∷ ps) cs)) (sym (any_behind e (λ j. names_cell false (q ++ At j ∷ ps) c) R))
    ∙ ap (λ b. list_any (λ j. names_cell false (q ++ At j ∷ ps) c && e) R || b) (open_cells x (n + 1) q ps s cs)
    ∙ sym (any_or (λ j. names_cell false (q ++ At j ∷ ps) c && e) (λ j. among x (cells_at (n + 1) (q ++ At j ∷ ps) cs)) R)
    ∙ any_same _ _ (λ j. sym (met x n (names_cell false (q ++ At j ∷ ps) c) (cells_at (n + 1) (q ++ At j ∷ ps) cs))) R

each_any : (x : ℕ) (f : ℕ → List ℕ) (n j : ℕ) → among x (each_of f n j) ≡ list_any (λ i. among x (f i)) (range_with_len j n)
each_any x f zero j = refl
each_any x f (suc n) j = list_any-append (nat_eq x) (f j) (each_of f n (j + 1)) ∙ ap (λ b. among x (f j) || b) (each_any x f n (j + 1))

any_below : (f g : ℕ → Bool) (a n : ℕ) → ((j : ℕ) → j < a + n → f j ≡ g j) → list_any f (range_with_len a n) ≡ list_any g (range_with_len a n)
any_below f g a zero h = refl
any_below f g a (suc n) h =
    ap (λ b. b || list_any f (range_with_len (a + 1) n)) (h a (omega arith))
    ∙ ap (λ b. g a || b) (any_below f g (a + 1) n (λ j l. h j (later a n j l)))
  where
    later : (a n j : ℕ) → j < a + 1 + n → j < a + suc n
    later a n j h = omega arith

no_more : {A : Type 0} (xs : List A) → xs ++ [] ≡ xs
no_more [] = refl
no_more (x ∷ xs) = ap (λ ys. x ∷ ys) (no_more xs)

or_false : (b : Bool) → (b || false) ≡ b
or_false true = refl
or_false false = refl

below_start : (j n : ℕ) → j < 0 + n → j < n
below_start j n h = omega arith

module _ (cs : Cells) (apart : cells_apart cs ≡ true) (x : ℕ) where
  pub rows_named : (ps : List Step) (ss : List ℕ) (q : List Step) (first : ℕ) → is_open q ≡ false → StandsInRows cs q ss first → AreUnder ps ss
      → among x (rows_of ps ss first) ≡ among x (cells_at 0 (q ++ ps) cs)
  rows_named [] [] q first closed stands under = ap (among x) (sym (one_or_none q closed 0 cs apart ∙ ap list_of stands)) ∙ ap (λ z. among x (cells_at 0 z cs)) (sym (no_more q))
  rows_named [] (s ∷ ss) q first closed stands under = absurd under
  rows_named (Named n ∷ ps) ss q first closed stands under = absurd under
  rows_named (Ours n ∷ ps) ss q first closed stands under = absurd under
  rows_named (At i ∷ ps) [] q first closed stands under = absurd under
  rows_named (Open n ∷ ps) [] q first closed stands under = absurd under
  rows_named (At i ∷ ps) (s ∷ ss) q first closed stands under =
      rows_named ps ss (q ++ At i ∷ []) (first + i * size_of ss) (closed_on q (At i ∷ []) closed refl) (stands i under.0) under.1
      ∙ ap (λ z. among x (cells_at 0 z cs)) (append_assoc q (At i ∷ []) ps)
  rows_named (Open n ∷ ps) (s ∷ ss) q first closed stands under =
      each_any x (λ j. rows_of ps ss (first + j * size_of ss)) s 0
      ∙ any_below (λ j. among x (rows_of ps ss (first + j * size_of ss))) (λ j. among x (cells_at 0 (q ++ At j ∷ ps) cs)) 0 s
      (λ j h. rows_named ps ss (q ++ At j ∷ []) (first + j * size_of ss) (closed_on q (At j ∷ []) closed refl) (stands j (below_start j s h)) under.1
      ∙ ap (λ z. among x (cells_at 0 z cs)) (append_assoc q (At j ∷ []) ps))
      ∙ ap (λ z. list_any (λ j. among x (cells_at 0 (q ++ At j ∷ ps) cs)) (range_with_len 0 z)) (sym under.0)
      ∙ sym (open_cells x 0 q ps n cs)
