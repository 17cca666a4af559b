-- A cell of a resolved core has its name for itself.
use Rattle.std.proofs.Common.{◌≡◌, refl, arith, ℕ, zero, suc, ◌+◌, Bool, true, false, not, ◌&&◌, ◌||◌, nat_eq, List, [], ◌∷◌, ◌++◌, map, Option, Some, None, slice_get, ap, ◌∙◌, sym, subst, if◌then◌else◌}
use Rattle.std.specs.Prelude.{find}
use Rattle.std.specs.List.{list_all}
use Rattle.scc_semantics.specs.Location.{Part}
use Rattle.scc_semantics.specs.Location as location
use Rattle.scc_core_spec.specs.IsResolved.{IsResolved, cells_apart, fit_cell, fit_process, keeps_inputs, processes_apart}
use Rattle.scc_core_spec.specs.Named.{Step, Named, At, Ours, Open, cell_at, cells_at, fits, is_open, names_cell, own_steps, part_step, steps_of}
use Rattle.scc_core_spec.specs.Program.{Cell, Program, is_pointer}
use Rattle.scc_core_spec.specs.Static.{Cells, found}
use Rattle.scc_core_spec.specs.Term.{CellName, Own}
use Rattle.scc_core.specs.declared.places.Places.{Places}
use Rattle.scc_core.specs.declared.program.Cell as core
use Rattle.scc_core.specs.declared.program.CellSort.{CellSort}
use Rattle.scc_core.specs.declared.program.CellSort.TheVariants as sort
use Rattle.scc_core.specs.Names.{is_pointer as code_pointer}
use Rattle.scc_core_view.specs.Programs.{cell_of, sort_of}
use Rattle.scc_core_whole.specs.Parts.{HaveNames}
use Rattle.scc_core_look.specs.Own.{are_own, is_own}
use Rattle.scc_core_look.proofs.Apart.{both, first, second, turned}

number_self : (n : ℕ) → nat_eq n n ≡ true
number_self n = grind arith

-- steps none of which is an open index
fits_self : (p : List Step) → is_open p ≡ false → fits p p ≡ true
fits_self [] e = refl
fits_self (Named n ∷ p) e = both (nat_eq n n) (fits p p) (number_self n) (fits_self p e)
fits_self (At n ∷ p) e = both (nat_eq n n) (fits p p) (number_self n) (fits_self p e)
fits_self (Ours n ∷ p) e = both (nat_eq n n) (fits p p) (number_self n) (fits_self p e)
fits_self (Open size ∷ p) e = absurd cc

fits_turned : (p q : List Step) → is_open p ≡ false → is_open q ≡ false → fits p q ≡ fits q p
fits_turned [] [] e f = refl
fits_turned [] (Named m ∷ q) e f = refl
fits_turned [] (At m ∷ q) e f = refl
fits_turned [] (Ours m ∷ q) e f = refl
fits_turned (Named n ∷ p) [] e f = refl
fits_turned (At n ∷ p) [] e f = refl
fits_turned (Ours n ∷ p) [] e f = refl
fits_turned (Named n ∷ p) (Named m ∷ q) e f = λ i. turned n m i && fits_turned p q e f i
fits_turned (At n ∷ p) (At m ∷ q) e f = λ i. turned n m i && fits_turned p q e f i
fits_turned (Ours n ∷ p) (Ours m ∷ q) e f = λ i. turned n m i && fits_turned p q e f i
fits_turned (Named n ∷ p) (At m ∷ q) e f = refl
fits_turned (Named n ∷ p) (Ours m ∷ q) e f = refl
fits_turned (At n ∷ p) (Named m ∷ q) e f = refl
fits_turned (At n ∷ p) (Ours m ∷ q) e f = refl
fits_turned (Ours n ∷ p) (Named m ∷ q) e f = refl
fits_turned (Ours n ∷ p) (At m ∷ q) e f = refl
fits_turned (Open size ∷ p) q e f = absurd cc
fits_turned p (Open size ∷ q) e f = absurd cc

closed_own : (o : Option Own) (is : List ℕ) → is_open (own_steps o is) ≡ false
closed_own None is = refl
closed_own (Some o) is = indices is
  where
    indices : (is : List ℕ) → is_open (map At is) ≡ false
    indices [] = refl
    indices (i ∷ is) = indices is

closed : (path : List Part) (rest : List Step) → is_open rest ≡ false → is_open (map part_step path ++ rest) ≡ false
closed [] rest e = e
closed (location.Member n ∷ path) rest e = closed path rest e
closed (location.Element i ∷ path) rest e = closed path rest e

closed_name : (n : CellName) → is_open (steps_of n) ≡ false
closed_name n = closed n.path (own_steps n.own n.indices) (closed_own n.own n.indices)

off : (b : Bool) → not b ≡ true → b ≡ false
off true e = absurd cc
off false e = refl

same_some : {A : Type 0} {a b : A} → Some a ≡ Some b → a ≡ b
same_some e = cc

all-at : (f : Cell → Bool) (ds : Cells) (k : ℕ) (d : Cell) → list_all f ds ≡ true → slice_get ds k ≡ Some d → f d ≡ true
all-at f [] k d e h = absurd cc
all-at f (x ∷ ds) zero d e h = ap f (sym (same_some h)) ∙ first (f x) (list_all f ds) e
all-at f (x ∷ ds) (suc k) d e h = all-at f ds k d (second (f x) (list_all f ds) e) h

abbrev differs : Cell → Cell → Bool
differs c d = not (fits (steps_of c.name) (steps_of d.name))

own_name : (c : Cell) → is_pointer c.sort ≡ false → names_cell false (steps_of c.name) c ≡ true
own_name c p = both (fits (steps_of c.name) (steps_of c.name)) _ (fits_self (steps_of c.name) (closed_name c.name)) (ap not p)

-- another cell before or behind it doesn't have the name
not_before : (x c : Cell) → fits (steps_of x.name) (steps_of c.name) ≡ false → names_cell false (steps_of c.name) x ≡ false
not_before x c e = ap (λ b. b && not (is_pointer x.sort)) (fits_turned (steps_of c.name) (steps_of x.name) (closed_name c.name) (closed_name x.name) ∙ e)

first_of : (ds : Cells) (k n : ℕ) (c : Cell) → cells_apart ds ≡ true → slice_get ds n ≡ Some c → is_pointer c.sort ≡ false → cell_at false k (steps_of c.name) ds ≡ Some (k + n)
first_of [] k n c a e p = absurd cc
first_of (x ∷ ds) k zero c a e p =
    ap (λ b. if b then Some k else cell_at false (k + 1) (steps_of c.name) ds) (ap (names_cell false (steps_of c.name)) (same_some e) ∙ own_name c p)
    ∙ ap Some (let z : k ≡ k + 0 = omega arith in z)
first_of (x ∷ ds) k (suc n) c a e p =
    let apart = off (fits (steps_of x.name) (steps_of c.name)) (all-at (differs x) ds n c (first (list_all (differs x) ds) (cells_apart ds) a) e) in
    ap (λ b. if b then Some k else cell_at false (k + 1) (steps_of c.name) ds) (not_before x c apart)
    ∙ first_of ds (k + 1) n c (second (list_all (differs x) ds) (cells_apart ds) a) e p
    ∙ ap Some (let z : k + 1 + n ≡ k + suc n = omega arith in z)

found_of : (ds : Cells) (n : ℕ) (c : Cell) → cells_apart ds ≡ true → slice_get ds n ≡ Some c → is_pointer c.sort ≡ false → found ds (steps_of c.name) ≡ Some c
found_of [] n c a e p = absurd cc
found_of (x ∷ ds) zero c a e p = ap (λ b. if b then Some x else found ds (steps_of c.name)) (ap (names_cell false (steps_of c.name)) (same_some e) ∙ own_name c p) ∙ e
found_of (x ∷ ds) (suc n) c a e p =
    let apart = off (fits (steps_of x.name) (steps_of c.name)) (all-at (differs x) ds n c (first (list_all (differs x) ds) (cells_apart ds) a) e) in
    ap (λ b. if b then Some x else found ds (steps_of c.name)) (not_before x c apart)
    ∙ found_of ds n c (second (list_all (differs x) ds) (cells_apart ds) a) e p

-- behind it none has the name
none_behind : (c : Cell) (k : ℕ) (ds : Cells) → list_all (differs c) ds ≡ true → cells_at k (steps_of c.name) ds ≡ []
none_behind c k [] e = refl
none_behind c k (d ∷ ds) e =
    ap (λ b. if b then k ∷ cells_at (k + 1) (steps_of c.name) ds else cells_at (k + 1) (steps_of c.name) ds)
    (ap (λ b. b && not (is_pointer d.sort)) (off (fits (steps_of c.name) (steps_of d.name)) (first (differs c d) (list_all (differs c) ds) e)))
    ∙ none_behind c (k + 1) ds (second (differs c d) (list_all (differs c) ds) e)

only_of : (ds : Cells) (k n : ℕ) (c : Cell) → cells_apart ds ≡ true → slice_get ds n ≡ Some c → is_pointer c.sort ≡ false → cells_at k (steps_of c.name) ds ≡ (k + n) ∷ []
only_of [] k n c a e p = absurd cc
only_of (x ∷ ds) k zero c a e p =
    ap (λ b. if b then k ∷ cells_at (k + 1) (steps_of c.name) ds else cells_at (k + 1) (steps_of c.name) ds) (ap (names_cell false (steps_of c.name)) (same_some e) ∙ own_name c p)
    ∙ ap (λ l. k ∷ l) (none_behind c (k + 1) ds (ap (λ y. list_all (differs y) ds) (sym (same_some e)) ∙ first (list_all (differs x) ds) (cells_apart ds) a))
    ∙ ap (λ m. m ∷ []) (let z : k ≡ k + 0 = omega arith in z)
only_of (x ∷ ds) k (suc n) c a e p =
    let apart = off (fits (steps_of x.name) (steps_of c.name)) (all-at (differs x) ds n c (first (list_all (differs x) ds) (cells_apart ds) a) e) in
    ap (λ b. if b then k ∷ cells_at (k + 1) (steps_of c.name) ds else cells_at (k + 1) (steps_of c.name) ds) (not_before x c apart)
    ∙ only_of ds (k + 1) n c (second (list_all (differs x) ds) (cells_apart ds) a) e p
    ∙ ap (λ m. m ∷ []) (let z : k + 1 + n ≡ k + suc n = omega arith in z)

-- cells under their own names have these for themselves
own_at : (p : Places) (m : ℕ) (cells : List core.Cell) (n : ℕ) (c : core.Cell) → are_own p m cells ≡ true → slice_get cells n ≡ Some c → code_pointer c.sort ≡ false
own_at p m [] n c a e = absurd cc
own_at p m (x ∷ cells) zero c a e = ap (λ (d : core.Cell). code_pointer d.sort) (sym (same_some e)) ∙ off (code_pointer x.sort) (first (not (code_pointer x.sort)) _ (first (is_own p m x) (are_own p (m + 1) cells) a))
own_at p m (x ∷ cells) (suc n) c a e = own_at p (m + 1) cells n c (second (is_own p m x) (are_own p (m + 1) cells) a) e

no_pointer : (s : CellSort) → code_pointer s ≡ false → is_pointer (sort_of s) ≡ false
no_pointer sort.Input e = refl
no_pointer sort.Output e = refl
no_pointer sort.Signal e = refl
no_pointer (sort.Variable w f) e = refl
no_pointer (sort.Local n) e = refl
no_pointer (sort.Pointer t) e = absurd cc
no_pointer (sort.Port r) e = refl

viewed : (cells : List core.Cell) (n : ℕ) (c : core.Cell) → slice_get cells n ≡ Some c → slice_get (map cell_of cells) n ≡ Some (cell_of c)
viewed [] n c e = absurd cc
viewed (x ∷ cells) zero c e = ap (λ y. Some (cell_of y)) (same_some e)
viewed (x ∷ cells) (suc n) c e = viewed cells n c e

pub have_names : (p : Places) (cells : List core.Cell) → cells_apart (map cell_of cells) ≡ true → are_own p 0 cells ≡ true → HaveNames cells
have_names p cells a own n c e = found_of (map cell_of cells) n (cell_of c) a (viewed cells n c e) (no_pointer c.sort (own_at p 0 cells n c own e))

module _ (p : Program) (r : IsResolved p) where
  apart : cells_apart p.cells ≡ true
  apart = first (cells_apart p.cells) _ (second (processes_apart p.processes) _ r)

  no-pointer : (n : ℕ) (c : Cell) → slice_get p.cells n ≡ Some c → is_pointer c.sort ≡ false
  no-pointer n c e = off (is_pointer c.sort) (first (not (is_pointer c.sort)) _ (all-at (fit_cell p.processes p.cells) p.cells n c (first (list_all (fit_cell p.processes p.cells) p.cells) _ (second (cells_apart p.cells) _ (second (processes_apart p.processes) _ r))) e))

  pub is-first : (n : ℕ) (c : Cell) → slice_get p.cells n ≡ Some c → cell_at false 0 (steps_of c.name) p.cells ≡ Some n
  is-first n c e = first_of p.cells 0 n c apart e (no-pointer n c e) ∙ ap Some (let z : 0 + n ≡ n = omega arith in z)

  pub is-only : (n : ℕ) (c : Cell) → slice_get p.cells n ≡ Some c → cells_at 0 (steps_of c.name) p.cells ≡ n ∷ []
  is-only n c e = only_of p.cells 0 n c apart e (no-pointer n c e) ∙ ap (λ m. m ∷ []) (let z : 0 + n ≡ n = omega arith in z)

  pub is-found : (n : ℕ) (c : Cell) → slice_get p.cells n ≡ Some c → found p.cells (steps_of c.name) ≡ Some c
  is-found n c e = found_of p.cells n c apart e (no-pointer n c e)
