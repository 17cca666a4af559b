-- The cells of objects one after another, and where pointers lead.
use Rattle.std.proofs.Common.{◌≡◌, refl, sym, ap, subst, ◌∙◌, arith, ℕ, zero, suc, ◌+◌, ◌-◌, ◌<◌, ◌≤◌, Bool, true, false, cond, nat_eq, List, [], ◌∷◌, ◌++◌, map, drop, length, Option, Some, None, option_map, option_and_then, slice_get, append_assoc, if◌then◌else◌, OnOk, Result, Ok, Err}
use Rattle.std.specs.Prelude.{find}
use Rattle.std.proofs.lemmas.Option.{slice_get-map}
use Rattle.scc_base.specs.declared.refusal.Place.{Place as Where}
use Rattle.scc_semantics.specs.Location.{Part}
use Rattle.scc_core.specs.declared.program.Cell.{Cell}
use Rattle.scc_core_spec.specs.Program as prog
use Rattle.scc_core_view.specs.Programs.{cell_of}
use Rattle.scc_elab_design.specs.declared.Object.{Object as Standing}
use Rattle.scc_elab_design.specs.declared.Target.{Target as Led}
use Rattle.scc_elab_design.specs.declared.Design.{Design as Left}
use Rattle.scc_elab_spec.specs.Program.{Plain}
use Rattle.scc_elab_spec.specs.Design as design
use Rattle.scc_elab_spec.specs.Design.{Design, Object, Node}
use Rattle.scc_elab_spec.specs.Cells.{object_cell, cells_from, object_cells, target_of as target_in, path_of as path_in}
use Rattle.scc_plain_view.specs.Designs.{design_of, object_of, target_of, path_of}
use Rattle.scc_inline_cells.specs.declared.cells.ObjectCells.{ObjectCells}
use Rattle.scc_inline_cells.specs.Listed.{counted, cells_listed, number_listed, IsAdded, IsEmpty, AreCells}
use Rattle.scc_inline_cells.specs.Tables.{first_from}

-- ---- targets

ge_from : (n j k : ℕ) (xs : List ℕ) → first_from n j xs ≡ Some k → j ≤ k
ge_from n j k [] e = absurd cc
ge_from n j k (x ∷ xs) e = by (nat_eq x n) (λ f. ge_from n (suc j) k xs f) e
  where
    same : Some j ≡ Some k → j ≡ k
    same e = cc

    by : (b : Bool) → (first_from n (suc j) xs ≡ Some k → suc j ≤ k) → (if b then Some j else first_from n (suc j) xs) ≡ Some k → j ≤ k
    by true next e = let s : j ≡ k = same e in omega (arith, s)
    by false next e = let s : suc j ≤ k = next e in omega (arith, s)

abbrev objects_of : List Led → List ℕ
objects_of ts = map (λ t. t.object) ts

found_some : (ts : List Led) (n j i k : ℕ) (t : Led) → k ≡ j + i → first_from n j (objects_of ts) ≡ Some k → slice_get ts i ≡ Some t → find (λ t. nat_eq t.object n) (map target_of ts) ≡ Some (target_of t)
found_some [] n j i k t s e g = absurd cc
found_some (x ∷ ts) n j i k t s e g = by (nat_eq x.object n) i s e g (λ i s e g. found_some ts n (suc j) i k t s e g)
  where
    there : Some x ≡ Some t → x ≡ t
    there e = cc

    same : Some j ≡ Some k → j ≡ k
    same e = cc

    by : (b : Bool) (i : ℕ) → k ≡ j + i → (if b then Some j else first_from n (suc j) (objects_of ts)) ≡ Some k → slice_get (x ∷ ts) i ≡ Some t
        → ((i : ℕ) → k ≡ suc j + i → first_from n (suc j) (objects_of ts) ≡ Some k → slice_get ts i ≡ Some t → find (λ t. nat_eq t.object n) (map target_of ts) ≡ Some (target_of t))
        → cond b (Some (target_of x)) (find (λ t. nat_eq t.object n) (map target_of ts)) ≡ Some (target_of t)
    by true zero s e g next = ap (λ z. Some (target_of z)) (there g)
    by true (suc i) s e g next = let q : j ≡ k = same e in absurd (omega (arith, q, s))
    by false zero s e g next = let q : suc j ≤ k = ge_from n (suc j) k (objects_of ts) e in absurd (omega (arith, q, s))
    by false (suc i) s e g next = let q : k ≡ suc j + i = omega (arith, s) in next i q e g

found_none : (ts : List Led) (n j : ℕ) → first_from n j (objects_of ts) ≡ None → find (λ t. nat_eq t.object n) (map target_of ts) ≡ None
found_none [] n j e = refl
found_none (x ∷ ts) n j e = by (nat_eq x.object n) e (λ e. found_none ts n (suc j) e)
  where
    by : (b : Bool) → (if b then Some j else first_from n (suc j) (objects_of ts)) ≡ None → (first_from n (suc j) (objects_of ts) ≡ None → find (λ t. nat_eq t.object n) (map target_of ts) ≡ None)
        → cond b (Some (target_of x)) (find (λ t. nat_eq t.object n) (map target_of ts)) ≡ None
    by true e next = absurd cc
    by false e next = next e

pub target_some : (d : Left) (n k : ℕ) (t : Led) (to : Option ℕ) → first_from n 0 (objects_of d.targets) ≡ Some k → slice_get d.targets k ≡ Some t → target_in (design_of d) n to ≡ Some (path_of t.path)
target_some d n k t to e g =
    let s : k ≡ 0 + k = omega arith in
    let f : find (λ t. nat_eq t.object n) (map target_of d.targets) ≡ Some (target_of t) = found_some d.targets n 0 k k t s e g in
    rw f refl

pub target_none : (d : Left) (n : ℕ) (to : Option ℕ) → first_from n 0 (objects_of d.targets) ≡ None → target_in (design_of d) n to ≡ option_map (path_in (design_of d)) to
target_none d n to e =
    let f : find (λ t. nat_eq t.object n) (map target_of d.targets) ≡ None = found_none d.targets n 0 e in
    rw f refl

-- ---- cells

abbrev listed : Option prog.Cell → List prog.Cell
listed None = []
listed (Some c) = c ∷ []

abbrev number_of : Option prog.Cell → ℕ → Option ℕ
number_of None n = None
number_of (Some c) n = Some n

abbrev more : Option prog.Cell → ℕ → ℕ
more None n = n
more (Some c) n = suc n

abbrev object : List Part → Where → Node → Object
object path place node = record { path = path; place = place; node = node }

from_on : (p : Plain) (d : Design) (n : ℕ) (path : List Part) (place : Where) (node : Node) (os : List Object)
    → cells_from p d n (object path place node ∷ os) ≡ listed (object_cell p d n (object path place node) node) ++ cells_from p d (suc n) os
from_on p d n path place (design.Module c) os = refl
from_on p d n path place (design.Port k output root) os = refl
from_on p d n path place (design.Signal k) os = refl
from_on p d n path place (design.Variable k w) os = refl
from_on p d n path place (design.Pointer to) os = refl

counted_on : (p : Plain) (d : Design) (n m : ℕ) (path : List Part) (place : Where) (node : Node) (os : List Object)
    → counted m (object path place node ∷ os) ≡ number_of (object_cell p d n (object path place node) node) m ∷ counted (more (object_cell p d n (object path place node) node) m) os
counted_on p d n m path place (design.Module c) os = refl
counted_on p d n m path place (design.Port k output root) os = refl
counted_on p d n m path place (design.Signal k) os = refl
counted_on p d n m path place (design.Variable k w) os = refl
counted_on p d n m path place (design.Pointer to) os = refl

map_both : {A B : Type 0} (f : A → B) (xs ys : List A) → map f (xs ++ ys) ≡ map f xs ++ map f ys
map_both f [] ys = refl
map_both f (x ∷ xs) ys = ap (λ zs. f x ∷ zs) (map_both f xs ys)

listed_is : (c : Option Cell) → map cell_of (cells_listed c) ≡ listed (option_map cell_of c)
listed_is None = refl
listed_is (Some c) = refl

number_is : (c : Option Cell) (n : ℕ) → number_listed c n ≡ number_of (option_map cell_of c) n
number_is None n = refl
number_is (Some c) n = refl

more_is : (cs : List Cell) (c : Option Cell) → length (cs ++ cells_listed c) ≡ more (option_map cell_of c) (length cs)
more_is [] None = refl
more_is [] (Some c) = refl
more_is (x ∷ cs) None = ap suc (more_is cs None)
more_is (x ∷ cs) (Some c) = ap suc (more_is cs (Some c))

drop_at : {A : Type 0} (xs : List A) (i : ℕ) (x : A) → slice_get xs i ≡ Some x → drop i xs ≡ x ∷ drop (suc i) xs
drop_at [] i x e = cc
drop_at (y ∷ ys) zero x e = let same : y ≡ x = cc in ap (λ z. z ∷ ys) same
drop_at (y ∷ ys) (suc i) x e = drop_at ys i x e

pub record Filling (p : Plain) (d : Design) (r : ObjectCells) (n : ℕ) : Type 0 where
  pub cells : map cell_of r.cells ++ cells_from p d n (drop n d.objects) ≡ object_cells p d
  pub of : r.of ++ counted (length r.cells) (drop n d.objects) ≡ counted 0 d.objects

pub filling_first : (p : Plain) (d : Design) (r : ObjectCells) → IsEmpty r → Filling p d r 0
filling_first p d r e = record {
  cells = ap (λ z. map cell_of z ++ cells_from p d 0 d.objects) e.cells;
  of = λ i. e.of i ++ counted (length (e.cells i)) d.objects;
}

module _ (p : Plain) (d : Left) (old new : ObjectCells) (n : ℕ) (o : Standing) (c : Option Cell) where
  abbrev this : Object
  this = object_of o

  abbrev rest : List Object
  rest = drop (suc n) (map object_of d.objects)

  pub filling_next : Filling p (design_of d) old n → slice_get d.objects n ≡ Some o → option_map cell_of c ≡ object_cell p (design_of d) n this this.node → IsAdded old new c → Filling p (design_of d) new (n + 1)
  filling_next inv there is added =
      let k : n + 1 ≡ suc n = omega arith in
      let e : drop n (map object_of d.objects) ≡ this ∷ rest = drop_at (map object_of d.objects) n this (slice_get-map object_of d.objects n ∙ ap (option_map object_of) there) in
      let cs : map cell_of new.cells ≡ map cell_of old.cells ++ listed (object_cell p (design_of d) n this this.node) =
      ap (map cell_of) added.cells ∙ map_both cell_of old.cells (cells_listed c) ∙ ap (λ z. map cell_of old.cells ++ z) (listed_is c ∙ ap listed is) in
      let fs : new.of ≡ old.of ++ number_of (object_cell p (design_of d) n this this.node) (length old.cells) ∷ [] =
      added.of ∙ ap (λ z. old.of ++ z ∷ []) (number_is c (length old.cells) ∙ ap (λ z. number_of z (length old.cells)) is) in
      let m : length new.cells ≡ more (object_cell p (design_of d) n this this.node) (length old.cells) = ap length added.cells ∙ more_is old.cells c ∙ ap (λ z. more z (length old.cells)) is in
      record {
        cells = ap (λ i. map cell_of new.cells ++ cells_from p (design_of d) i (drop i (map object_of d.objects))) k
            ∙ ap (λ z. z ++ cells_from p (design_of d) (suc n) rest) cs ∙ append_assoc (map cell_of old.cells) (listed (object_cell p (design_of d) n this this.node)) (cells_from p (design_of d) (suc n) rest)
            ∙ ap (λ z. map cell_of old.cells ++ z) (sym (from_on p (design_of d) n this.path this.place this.node rest) ∙ ap (cells_from p (design_of d) n) (sym e)) ∙ inv.cells;
        of = ap (λ i. new.of ++ counted (length new.cells) (drop i (map object_of d.objects))) k
            ∙ (λ i. fs i ++ counted (m i) rest) ∙ append_assoc old.of (number_of (object_cell p (design_of d) n this this.node) (length old.cells) ∷ []) (counted (more (object_cell p (design_of d) n this this.node) (length old.cells)) rest)
            ∙ ap (λ z. old.of ++ z) (sym (counted_on p (design_of d) n (length old.cells) this.path this.place this.node rest) ∙ ap (counted (length old.cells)) (sym e)) ∙ inv.of;
      }

with_none : {A : Type 0} (xs : List A) → xs ++ [] ≡ xs
with_none [] = refl
with_none (x ∷ xs) = ap (λ ys. x ∷ ys) (with_none xs)

dropped : {A : Type 0} (i : ℕ) (xs : List A) → length xs ≤ i → drop i xs ≡ []
dropped zero [] h = refl
dropped zero (x ∷ xs) h = absurd (omega (arith, h))
dropped (suc i) [] h = refl
dropped (suc i) (x ∷ xs) h = let l : length xs ≤ i = omega (arith, h) in dropped i xs l

length_map : {A B : Type 0} (f : A → B) (xs : List A) → length (map f xs) ≡ length xs
length_map f [] = refl
length_map f (x ∷ xs) = ap suc (length_map f xs)

pub filling_last : (p : Plain) (d : Left) (r : ObjectCells) (n : ℕ) → length d.objects ≤ n → Filling p (design_of d) r n → AreCells p (design_of d) r
filling_last p d r n h inv =
    let e : drop n (map object_of d.objects) ≡ [] = dropped n (map object_of d.objects) (subst (λ k. k ≤ n) (sym (length_map object_of d.objects)) h) in
    record {
      cells = sym (with_none (map cell_of r.cells)) ∙ ap (λ z. map cell_of r.cells ++ cells_from p (design_of d) n z) (sym e) ∙ inv.cells;
      of = sym (with_none r.of) ∙ ap (λ z. r.of ++ counted (length r.cells) z) (sym e) ∙ inv.of;
    }
