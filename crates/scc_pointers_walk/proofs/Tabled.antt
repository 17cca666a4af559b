-- Whole names are the cells that the definitions find, by the table of names.
use Rattle.std.proofs.Common.{◌≡◌, refl, sym, ap, ◌∙◌, ℕ, Bool, true, false, nat_eq, if◌then◌else◌, List, [], ◌∷◌, ◌++◌, map, length, slice_get, Option, Some, None, option_map, option_and_then, unwrap_or}
use Rattle.std.proofs.lemmas.Option.{slice_get-map}
use Rattle.scc_base.specs.declared.code.Code.TheVariants as reason
use Rattle.scc_base.specs.declared.names.Name.{Name}
use Rattle.scc_base.specs.declared.path.PathPart.{PathPart}
use Rattle.scc_base.specs.declared.path.PathPart.TheVariants as path_part
use Rattle.scc_base.specs.declared.refusal.Place.{Place}
use Rattle.scc_core.specs.declared.expr.CoreLeft.{CoreLeft}
use Rattle.scc_core.specs.declared.expr.CoreBase.{roll-CoreBase, out-CoreBase}
use Rattle.scc_core.specs.declared.expr.CoreBase.TheOpen as tree
use Rattle.scc_core.specs.declared.places.NameStep.{NameStep}
use Rattle.scc_core.specs.declared.places.NameStep.TheVariants as step
use Rattle.scc_core.specs.declared.places.Places.{Places}
use Rattle.scc_core.specs.declared.places.Spot.{Spot}
use Rattle.scc_core.specs.declared.program.Cell.{Cell}
use Rattle.scc_core.specs.declared.program.CellName.{CellName}
use Rattle.scc_core.specs.declared.program.CellSort.{CellSort}
use Rattle.scc_core.specs.declared.program.CellSort.TheVariants as sort
use Rattle.scc_core.specs.Names.{cell_at, leads, name_spot, of_indices, of_path, past_local, step_of, walk}
use Rattle.scc_core.specs.Names as names
use Rattle.scc_core.specs.Tables.{IsTable, cell_in, known, top, under}
use Rattle.scc_core.specs.Tables as table
use Rattle.scc_core_spec.specs.Fold as fold
use Rattle.scc_core_spec.specs.First.{refused}
use Rattle.scc_core_spec.specs.Named.{Named, At, Ours, Step, chooses_object, own_steps, part_step, path_steps, steps_of}
use Rattle.scc_core_spec.specs.Named as spec
use Rattle.scc_core_spec.specs.Program as program
use Rattle.scc_core_spec.specs.Resolved.{Tried, Made, Stopped, made_map, looked, named_pointer, without_pointer}
use Rattle.scc_core_spec.specs.Term.{Left, place_at}
use Rattle.scc_core_spec.specs.Term as term
use Rattle.scc_core_spec.specs.Uses as uses
use Rattle.scc_core_view.specs.Programs.{cell_of, path_of, sort_of}
use Rattle.scc_core_view.specs.Steps.{step_in}
use Rattle.scc_core_view.specs.Terms.{name_of, own_of, part_of}
use Rattle.scc_core_view.proofs.Tables.{cells_same}
use Rattle.scc_core_view.specs.Whole.{IsName}
use Rattle.scc_pointers_walk.specs.declared.held.Resolver.{Resolver}
use Rattle.scc_pointers_walk.specs.Led.{left_of, leads_of}
use Rattle.scc_pointers_walk.specs.Located.{BaseLayer, cell_base, cell_or_pointer, is_chosen, looked_in, root_in, whole_by, whole_cell, whole_in, with_base}
use Rattle.scc_pointers_walk.specs.Located as located
use Rattle.scc_pointers_walk.specs.Read.{AreFound, IsNamedBase, IsNamed}
use Rattle.scc_pointers_walk.specs.Pointers.{is_of_pointer, is_pointer}
use Rattle.scc_pointers_walk.proofs.Locations.{alone, is_part, out_cell, out_prefix, parted, seen_base, cs, vs}
use Rattle.scc_pointers_walk.proofs.Patterns.{chosen_is, place_is}

-- ---- names as steps

append_map : (xs ys : List NameStep) → map step_in (xs ++ ys) ≡ map step_in xs ++ map step_in ys
append_map [] ys = refl
append_map (x ∷ xs) ys = ap (λ l. step_in x ∷ l) (append_map xs ys)

path_same : (path : List PathPart) → map part_step (map part_of path) ≡ map step_in (map step_of path)
path_same [] = refl
path_same (path_part.Member n ∷ path) = ap (λ l. Named n.0 ∷ l) (path_same path)
path_same (path_part.Index i ∷ path) = ap (λ l. At i ∷ l) (path_same path)

indices_same : (is : List ℕ) → map At is ≡ map step_in (map step.Index is)
indices_same [] = refl
indices_same (i ∷ is) = ap (λ l. At i ∷ l) (indices_same is)

own_same : (local : Option (ℕ × Name)) (is : List ℕ) → own_steps (own_of local) is ≡ map step_in (table.own_steps local is)
own_same None is = refl
own_same (Some l) is = ap (λ x. Ours l.0 ∷ x) (indices_same is)

pub steps_same : (n : CellName) → steps_of (name_of n) ≡ map step_in (table.steps_of n)
steps_same n = (λ i. path_same n.path i ++ own_same n.local n.indices i) ∙ sym (append_map (map step_of n.path) (table.own_steps n.local n.indices))

-- ---- walks along a table

pub walk_on : (p : Places) (at : Spot) (xs ys : List (Option NameStep)) → walk p at (xs ++ ys) ≡ option_and_then (λ to. walk p to ys) (walk p at xs)
walk_on p at [] ys = refl
walk_on p at (x ∷ xs) ys = by (option_and_then (leads p at) x) (λ to. walk_on p to xs ys)
  where
    by : (o : Option Spot) → ((to : Spot) → walk p to (xs ++ ys) ≡ option_and_then (λ to. walk p to ys) (walk p to xs))
        → option_and_then (λ to. walk p to (xs ++ ys)) o ≡ option_and_then (λ to. walk p to ys) (option_and_then (λ to. walk p to xs) o)
    by None h = refl
    by (Some to) h = h to

known_path : (path : List PathPart) → known (map step_of path) ≡ of_path path
known_path [] = refl
known_path (x ∷ path) = ap (λ l. Some (step_of x) ∷ l) (known_path path)

known_indices : (is : List ℕ) → known (map step.Index is) ≡ of_indices is
known_indices [] = refl
known_indices (i ∷ is) = ap (λ l. Some (step.Index i) ∷ l) (known_indices is)

pub known_on : (xs ys : List NameStep) → known (xs ++ ys) ≡ known xs ++ known ys
known_on [] ys = refl
known_on (x ∷ xs) ys = ap (λ l. Some x ∷ l) (known_on xs ys)

own_spot : (p : Places) (local : Option (ℕ × Name)) (is : List ℕ) → (local ≡ None → is ≡ []) → (at : Spot)
    → walk p at (known (table.own_steps local is)) ≡ option_and_then (λ at. walk p at (of_indices is)) (past_local p local at)
own_spot p None is h at = ap (λ is. walk p at (of_indices is)) (sym (h refl))
own_spot p (Some l) is h at = ap (λ ss. option_and_then (λ to. walk p to ss) (leads p at (step.Local l.0))) (known_indices is)

pub name_walk : (p : Places) (name : CellName) → IsName name → walk p top (known (table.steps_of name)) ≡ name_spot p name
name_walk p name h =
    ap (walk p top) (known_on (map step_of name.path) (table.own_steps name.local name.indices))
    ∙ walk_on p top (known (map step_of name.path)) (known (table.own_steps name.local name.indices))
    ∙ ap (λ ss. option_and_then (λ to. walk p to (known (table.own_steps name.local name.indices))) (walk p top ss)) (known_path name.path)
    ∙ by (walk p top (of_path name.path))
  where
    by : (o : Option Spot) → option_and_then (λ to. walk p to (known (table.own_steps name.local name.indices))) o ≡ option_and_then (λ at. walk p at (of_indices name.indices)) (option_and_then (past_local p name.local) o)
    by None = refl
    by (Some at) = own_spot p name.local name.indices h at

-- ---- whole names

sort_is : (s : CellSort) → program.is_pointer (sort_of s) ≡ is_of_pointer s
sort_is sort.Input = refl
sort_is sort.Output = refl
sort_is sort.Signal = refl
sort_is (sort.Variable w f) = refl
sort_is (sort.Local n) = refl
sort_is (sort.Pointer t) = refl
sort_is (sort.Port p) = refl

pub tried_if : {A B : Type 0} (f : A → B) (b : Bool) (s t : Tried A) → made_map f (if b then s else t) ≡ (if b then made_map f s else made_map f t)
tried_if f true s t = refl
tried_if f false s t = refl

module _ (r : Resolver) (t : IsTable r.places.now r.known.cells.now r.vectors.now) where
  found_cell : (name : CellName) → IsName name → option_and_then (cell_at r.places.now) (name_spot r.places.now name) ≡ spec.cell_at false 0 (steps_of (name_of name)) (cs r)
  found_cell name h =
      ap (option_and_then (cell_at r.places.now)) (sym (name_walk r.places.now name h))
      ∙ t.cells_by (table.steps_of name)
      ∙ cells_same false (table.steps_of name) 0 r.known.cells.now
      ∙ ap (λ s. spec.cell_at false 0 s (cs r)) (sym (steps_same name))

  found_path : (path : List PathPart) → option_and_then (cell_at r.places.now) (walk r.places.now top (of_path path)) ≡ spec.cell_at false 0 (path_steps (path_of path)) (cs r)
  found_path path =
      ap (λ ss. option_and_then (cell_at r.places.now) (walk r.places.now top ss)) (sym (known_path path))
      ∙ t.cells_by (map step_of path)
      ∙ cells_same false (map step_of path) 0 r.known.cells.now
      ∙ ap (λ s. spec.cell_at false 0 s (cs r)) (sym (path_same path))

  root_is : (n : ℕ) → root_in r n ≡ uses.root_of (cs r) n
  root_is n = by (slice_get r.known.cells.now n) ∙ ap (λ o. unwrap_or (option_map (λ s. uses.root_of_sort (cs r) s n) (option_map (λ c. c.sort) o)) n) (sym (slice_get-map cell_of r.known.cells.now n))
    where
      sorted : (s : CellSort) → names.root_of_sort r.places.now n s ≡ uses.root_of_sort (cs r) (sort_of s) n
      sorted sort.Input = refl
      sorted sort.Output = refl
      sorted sort.Signal = refl
      sorted (sort.Variable w f) = refl
      sorted (sort.Local i) = refl
      sorted (sort.Pointer o) = refl
      sorted (sort.Port path) = ap (λ o. unwrap_or o n) (found_path path)

      by : (o : Option Cell) → names.root_in r.places.now n o ≡ unwrap_or (option_map (λ s. uses.root_of_sort (cs r) s n) (option_map (λ c. c.sort) (option_map cell_of o))) n
      by None = refl
      by (Some c) = sorted c.sort

  base_at : (p : Place) (n : ℕ) → seen_base (out-CoreBase (cell_base r n)) p ≡ named_pointer p n (slice_get (cs r) n)
  base_at p n = by (slice_get r.known.cells.now n) ∙ ap (named_pointer p n) (sym (slice_get-map cell_of r.known.cells.now n))
    where
      pointed : (c : Cell) (b : Bool) → seen_base (out-CoreBase (if b then roll-CoreBase (tree.Prefix c.name) else roll-CoreBase (tree.Cell n))) p ≡ (if b then term.Prefix p (name_of c.name) else term.Cell p n)
      pointed c true = ap (λ y. seen_base y p) (out_prefix c.name)
      pointed c false = ap (λ y. seen_base y p) (out_cell n)

      by : (o : Option Cell) → seen_base (out-CoreBase (cell_or_pointer n o)) p ≡ named_pointer p n (option_map cell_of o)
      by None = ap (λ y. seen_base y p) (out_cell n)
      by (Some c) = pointed c (is_pointer c) ∙ ap (λ b. if b then term.Prefix p (name_of c.name) else term.Cell p n) (sym (sort_is c.sort))

  abbrev whole_left : Left → Left
  whole_left m = without_pointer (cs r) (fold.whole (cs r) (vs r) false m)

  part_whole : (m : Left) → is_part m ≡ true → whole_left m ≡ m
  part_whole (term.Cell p n) h = cc h
  part_whole (term.Prefix p n) h = cc h
  part_whole (term.Null p) h = refl
  part_whole (term.Follow p s l) h = refl
  part_whole (term.Member l n) h = refl
  part_whole (term.Index l size e) h = refl

  whole_alone : (l : CoreLeft) → nat_eq (length l.parts) 0 ≡ true → (y : BaseLayer) → out-CoreBase l.base ≡ y → IsNamedBase y → left_of (whole_by r l (located.cell_in r y)) ≡ whole_left (seen_base y l.place)
  whole_alone l e (tree.Cell n) h g =
      alone (with_base l (cell_base r (root_in r n))) e ∙ base_at l.place (root_in r n)
      ∙ ap (λ m. named_pointer l.place m (slice_get (cs r) m)) (root_is n)
  whole_alone l e (tree.Prefix name) h g = by (name_spot r.places.now name) (found_cell name g)
    where
      celled : (o : Option ℕ) → o ≡ spec.cell_at false 0 (steps_of (name_of name)) (cs r) → left_of (whole_by r l (option_map (root_in r) o)) ≡ whole_left (term.Prefix l.place (name_of name))
      celled None k =
          alone l e ∙ ap (λ y. seen_base y l.place) h
          ∙ ap (λ o. without_pointer (cs r) (unwrap_or (option_map (λ c. term.Cell l.place (uses.root_of (cs r) c)) o) (term.Prefix l.place (name_of name)))) k
      celled (Some c) k =
          alone (with_base l (cell_base r (root_in r c))) e ∙ base_at l.place (root_in r c)
          ∙ ap (λ m. named_pointer l.place m (slice_get (cs r) m)) (root_is c)
          ∙ ap (λ o. without_pointer (cs r) (unwrap_or (option_map (λ c. term.Cell l.place (uses.root_of (cs r) c)) o) (term.Prefix l.place (name_of name)))) k

      by : (o : Option Spot) → option_and_then (cell_at r.places.now) o ≡ spec.cell_at false 0 (steps_of (name_of name)) (cs r)
          → left_of (whole_by r l (option_and_then (λ at. option_map (root_in r) (cell_at r.places.now at)) o)) ≡ whole_left (term.Prefix l.place (name_of name))
      by None k = celled None k
      by (Some at) k = celled (cell_at r.places.now at) k
  whole_alone l e (tree.Follow m soft) h g = alone l e ∙ ap (λ y. seen_base y l.place) h
  whole_alone l e tree.Null h g = alone l e ∙ ap (λ y. seen_base y l.place) h

  pub whole_is : (l : CoreLeft) → IsNamed l → left_of (whole_in r l) ≡ whole_left (left_of l)
  whole_is l g = by (nat_eq (length l.parts) 0) refl
    where
      by : (b : Bool) → nat_eq (length l.parts) 0 ≡ b → left_of (if b then whole_by r l (whole_cell r l.base) else l) ≡ whole_left (left_of l)
      by true e = whole_alone l e (out-CoreBase l.base) refl g ∙ ap whole_left (sym (alone l e))
      by false e = sym (part_whole (left_of l) (parted l e))

  pub looked_is : (l : CoreLeft) → IsNamed l → AreFound r l.parts → made_map left_of (looked_in r l) ≡ looked (leads_of r) (left_of l)
  looked_is l g h =
      tried_if left_of (is_chosen r l) (Stopped (refused reason.StaticIndex l.place)) (Made (whole_in r l))
      ∙ (λ i. if chosen_is r l h i then Stopped (refused reason.StaticIndex (sym (place_is l) i)) else Made (whole_is l g i))
