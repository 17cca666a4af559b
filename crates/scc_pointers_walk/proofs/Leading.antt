-- Pointers lead where the definitions have it.
use Rattle.std.proofs.Common.{◌≡◌, refl, sym, ap, ◌∙◌, ℕ, Bool, true, false, nat_eq, if◌then◌else◌, [], map, slice_get, Option, Some, None, option_map, option_and_then, is_some}
use Rattle.std.specs.List.{list_any}
use Rattle.std.specs.HashMap.{get_by}
use Rattle.std.proofs.lemmas.Option.{slice_get-map}
use Rattle.scc_base.specs.declared.code.Code.TheVariants as reason
use Rattle.scc_base.specs.declared.refusal.Place.{Place}
use Rattle.scc_core.specs.declared.expr.CoreLeft.{CoreLeft}
use Rattle.scc_core.specs.declared.program.Cell.{Cell}
use Rattle.scc_core.specs.declared.program.CellName.{CellName}
use Rattle.scc_core.specs.declared.program.CellSort.{CellSort}
use Rattle.scc_core.specs.declared.program.CellSort.TheVariants as sort
use Rattle.scc_core.specs.Elements.{step_at}
use Rattle.scc_core.specs.Names.{name_spot, walk}
use Rattle.scc_core.specs.Names as names
use Rattle.scc_core.specs.Tables.{IsTable}
use Rattle.scc_core_spec.specs.Named as spec
use Rattle.scc_core_spec.specs.First.{refused}
use Rattle.scc_core_spec.specs.Resolved.{Tried, Made, Stopped, is_local_name, leads_to, led_by, left_by, made_map, placed, pointed}
use Rattle.scc_core_spec.specs.Resolved as resolved
use Rattle.scc_core_spec.specs.Static.{pattern}
use Rattle.scc_core_spec.specs.Term.{Left, place_at}
use Rattle.scc_core_view.specs.Programs.{cell_of, sort_of}
use Rattle.scc_core_view.specs.Terms.{own_of}
use Rattle.scc_base.specs.declared.names.Name.{Name}
use Rattle.scc_pointers_spec.specs.Freed.{led_before}
use Rattle.scc_pointers_walk.specs.declared.held.Resolver.{Resolver}
use Rattle.scc_pointers_walk.specs.Led.{at_place, held_or, led_in, left_at, left_in, left_of, looks_of, of_path, target_of}
use Rattle.scc_pointers_walk.specs.Located.{is_one_of, name_at, pointed_in, pointer_in, seen, target_at}
use Rattle.scc_pointers_walk.specs.Located as located
use Rattle.scc_pointers_walk.specs.Read.{AreFound, HasName, HaveNoTargets, HaveSmallNames}
use Rattle.scc_pointers_walk.proofs.Locations.{alone, out_prefix, seen_base, cs}
use Rattle.scc_pointers_walk.proofs.Patterns.{longer_by, name_steps, open_is, open_parts, pattern_is, place_is, steps}
use Rattle.scc_pointers_walk.proofs.Placed.{placed_is}
use Rattle.scc_pointers_walk.proofs.Sized.{pointer_is}

module _ (r : Resolver) where
  placed_target : (p : Place) (o : Option CoreLeft) → target_of (option_map (at_place p) o) ≡ option_map (placed p) (target_of o)
  placed_target p None = refl
  placed_target p (Some l) = ap Some (placed_is p l)

  left_same : (p : Place) (s : CellSort) → target_of (left_in p s) ≡ left_by p (Some (sort_of s))
  left_same p sort.Input = refl
  left_same p sort.Output = refl
  left_same p sort.Signal = refl
  left_same p (sort.Variable w f) = refl
  left_same p (sort.Local n) = refl
  left_same p (sort.Pointer None) = refl
  left_same p (sort.Pointer (Some path)) = ap Some (alone (of_path p path) refl ∙ ap (λ y. seen_base y p) (out_prefix (record { path = path; local = None; indices = [] })))
  left_same p (sort.Port path) = refl

  -- a local pointer that isn't declared
  nowhere : HaveNoTargets r.known.cells.now → (p : Place) (n : ℕ) → is_local_name (slice_get (cs r) n) ≡ true → target_of (left_at p (slice_get r.known.cells.now n)) ≡ None
  nowhere f p n h = by (slice_get r.known.cells.now n) refl (sym (ap is_local_name (slice_get-map cell_of r.known.cells.now n)) ∙ h)
    where
      named : (o : Option (ℕ × Name)) → is_some (own_of o) ≡ true → is_some o ≡ true
      named None e = absurd cc
      named (Some l) e = refl

      at : (c : Cell) → slice_get r.known.cells.now n ≡ Some c → is_some c.name.local ≡ true → (s : CellSort) → c.sort ≡ s → target_of (left_in p s) ≡ None
      at c e i sort.Input g = refl
      at c e i sort.Output g = refl
      at c e i sort.Signal g = refl
      at c e i (sort.Variable w b) g = refl
      at c e i (sort.Local k) g = refl
      at c e i (sort.Pointer None) g = refl
      at c e i (sort.Pointer (Some path)) g = absurd (f n c path e i g)
      at c e i (sort.Port path) g = refl

      by : (o : Option Cell) → slice_get r.known.cells.now n ≡ o → is_local_name (option_map cell_of o) ≡ true → target_of (left_at p o) ≡ None
      by None e i = refl
      by (Some c) e i = at c e (named c.name.local i) c.sort refl

  pub led_is : HaveNoTargets r.known.cells.now → (p : Place) (n : ℕ) → leads_to (looks_of r) p n ≡ Made (target_of (led_in r p n))
  led_is f p n = by (get_by (nat_eq n) r.held) (is_local_name (slice_get (cs r) n)) refl
    where
      cell_left : (o : Option Cell) → left_by p (option_map (λ c. c.sort) (option_map cell_of o)) ≡ target_of (left_at p o)
      cell_left None = refl
      cell_left (Some c) = sym (left_same p c.sort)

      by : (o : Option (Option CoreLeft)) (b : Bool) → is_local_name (slice_get (cs r) n) ≡ b → led_by (looks_of r) p n (led_before b (option_map target_of o)) ≡ Made (target_of (held_or r p n o))
      by (Some t) b e = ap Made (sym (placed_target p t))
      by None true e = ap Made (sym (nowhere f p n e))
      by None false e =
          ap (λ b. if b then Stopped (refused reason.EmptyPointer p) else Made (left_by p (option_map (λ c. c.sort) (slice_get (cs r) n)))) e
          ∙ ap (λ o. Made (left_by p (option_map (λ c. c.sort) o))) (slice_get-map cell_of r.known.cells.now n)
          ∙ ap Made (cell_left (slice_get r.known.cells.now n))

  target_is : HaveNoTargets r.known.cells.now → (p : Place) (o : Option ℕ) → Made (target_of (target_at r p o)) ≡ resolved.pointer_there (looks_of r) p o
  target_is f p None = refl
  target_is f p (Some n) = sym (led_is f p n)

  abbrev there : Left → Tried (Option Left)
  there m = resolved.pointer_there (looks_of r) (place_at m) (option_and_then (λ q. spec.cell_at true 0 q (cs r)) (pattern (cs r) m))

  pub pointed_is : HaveNoTargets r.known.cells.now → IsTable r.places.now r.known.cells.now r.vectors.now → HaveSmallNames r.known.cells.now → (l : CoreLeft) → HasName r l → AreFound r l.parts
      → made_map target_of (pointed_in r l) ≡ pointed (looks_of r) (left_of l)
  pointed_is f t g l named h = by (is_one_of r l false) refl ∙ ap (λ b. if b then Stopped (refused reason.StaticIndex (place_at (left_of l))) else there (left_of l)) (open_is r l false h)
    where
      closed : (o : Option CellName) → name_at r l.base ≡ o → is_one_of r l false ≡ false → pointer_in r l ≡ option_and_then (λ q. spec.cell_at true 0 q (cs r)) (pattern (cs r) (left_of l))
      closed None k e =
          ap (λ f. option_and_then (names.pointer_at r.places.now) (option_and_then (λ at. walk r.places.now at (map (step_at false) (seen r l.parts))) (option_and_then (name_spot r.places.now) f))) k
          ∙ sym (ap (option_and_then (λ q. spec.cell_at true 0 q (cs r))) (pattern_is r l ∙ ap (λ f. longer_by r (name_steps r f) (steps r l.parts)) k))
      closed (Some front) k e = pointer_is r t g l named h (sym (open_parts r l.parts h) ∙ sym (ap (λ f. if is_some f then list_any located.is_open (seen r l.parts) else false) k) ∙ e)

      by : (b : Bool) → is_one_of r l false ≡ b → made_map target_of (if b then Stopped (refused reason.StaticIndex l.place) else Made (target_at r l.place (pointer_in r l)))
          ≡ (if is_one_of r l false then Stopped (refused reason.StaticIndex (place_at (left_of l))) else there (left_of l))
      by true e = ap (λ p. Stopped (refused reason.StaticIndex p)) (sym (place_is l)) ∙ ap (λ b. if b then Stopped (refused reason.StaticIndex (place_at (left_of l))) else there (left_of l)) (sym e)
      by false e =
          target_is f l.place (pointer_in r l)
          ∙ (λ i. resolved.pointer_there (looks_of r) (sym (place_is l) i) (closed (name_at r l.base) refl e i))
          ∙ ap (λ b. if b then Stopped (refused reason.StaticIndex (place_at (left_of l))) else there (left_of l)) (sym e)
