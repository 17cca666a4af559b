-- Sizes of vectors, and pointers by their names, are those that the definitions find.
use Rattle.std.proofs.Common.{◌≡◌, refl, sym, ap, ◌∙◌, ℕ, ◌<◌, ◌≤◌, Bool, true, false, ◌&&◌, nat_eq, nat_lt, if◌then◌else◌, List, [], ◌∷◌, ◌++◌, map, Option, Some, None, option_map, option_and_then, is_some, unwrap_or, append_assoc}
use Rattle.std.specs.List.{list_any}
use Rattle.scc_base.specs.declared.names.Name.{Name}
use Rattle.scc_base.specs.declared.path.PathPart.{PathPart}
use Rattle.scc_base.specs.declared.path.PathPart.TheVariants as path_part
use Rattle.scc_bits.specs.Value.{Number}
use Rattle.scc_core.specs.declared.expr.CoreExpr.{CoreExpr}
use Rattle.scc_core.specs.declared.expr.CoreLeft.{CoreLeft}
use Rattle.scc_core.specs.declared.expr.CorePart.{CorePart, out-CorePart}
use Rattle.scc_core.specs.declared.expr.CoreBase.TheOpen as tree
use Rattle.scc_core.specs.declared.places.NameStep.{NameStep}
use Rattle.scc_core.specs.declared.places.NameStep.TheVariants as step
use Rattle.scc_core.specs.declared.places.Places.{Places}
use Rattle.scc_core.specs.declared.places.Spot.{Spot}
use Rattle.scc_core.specs.declared.program.CellName.{CellName}
use Rattle.scc_core.specs.declared.program.VectorSize2.{VectorSize2}
use Rattle.scc_core.specs.Elements.{Element, step_at}
use Rattle.scc_core.specs.Known.{facts_in}
use Rattle.scc_core.specs.Names.{leads, name_spot, walk}
use Rattle.scc_core.specs.Names as names
use Rattle.scc_core.specs.Statics.{value_in}
use Rattle.scc_core.specs.Tables.{IsTable, known, top}
use Rattle.scc_core.specs.Tables as table
use Rattle.scc_core_spec.specs.Fold as fold
use Rattle.scc_core_spec.specs.Named.{Step, Named, At, fits, is_open, own_steps, part_step, path_steps, steps_of}
use Rattle.scc_core_spec.specs.Named as spec
use Rattle.scc_core_spec.specs.Static.{pattern}
use Rattle.scc_core_spec.specs.Term as term
use Rattle.scc_core_view.specs.Programs.{path_of, vector_of}
use Rattle.scc_core_view.specs.Steps.{step_in}
use Rattle.scc_core_view.specs.Terms.{name_of, own_of, part_of, term_of}
use Rattle.scc_core_view.proofs.Tables.{cells_same, sizes_same}
use Rattle.scc_core_view.specs.Whole.{IsName}
use Rattle.scc_pointers_walk.specs.declared.held.Resolver.{Resolver}
use Rattle.scc_pointers_walk.specs.Led.{left_of}
use Rattle.scc_pointers_walk.specs.Located.{element_on, first_size, fits_one, found_size, is_number, known_size, may_name, name_at, pointer_in, rest_behind, seen, size_by, size_of}
use Rattle.scc_pointers_walk.specs.Located as located
use Rattle.scc_core_static_laws.specs.Indices.{Finds, unknown, number, past}
use Rattle.scc_pointers_walk.specs.Read.{IsFound, IsFoundPart, AreFound, AreSmallParts, HasName, HaveSmallNames, HaveSmallPaths}
use Rattle.scc_pointers_walk.proofs.Locations.{cs, vs}
use Rattle.scc_pointers_walk.proofs.Patterns.{choice_behind, choice_parts, closed_is, element_on_is, longer_by, name_steps, open_parts, pattern_is, seen_is, seen_of, step_by, step_for, steps}
use Rattle.scc_pointers_walk.proofs.Terms.{PartLayer}
use Rattle.scc_pointers_walk.proofs.Tabled.{known_on, name_walk, steps_same, walk_on}
use Rattle.scc_pointers_walk.proofs.Bounds.{too_large, large_fits, no_size, no_pointer, not_ours, path_fits, small_rest, Small}

module _ (r : Resolver) where
  no_more : (y : PartLayer) (s : List Step) → fits (step_for r y ∷ s) [] ≡ false
  no_more (tree.Member n) s = refl
  no_more (tree.Index size e) s = by (fold.static_index (cs r) (vs r) (term_of e))
    where
      by : (o : Option ℕ) → fits (step_by r size o ∷ s) [] ≡ false
      by None = refl
      by (Some i) = refl

  rest_fits : (ps : List CorePart) → AreFound r ps → (rest : List PathPart) → AreSmallParts rest → located.fits (seen r ps) rest ≡ fits (steps r ps) (path_steps (path_of rest))
  rest_fits [] h [] g = refl
  rest_fits [] h (path_part.Member m ∷ rest) g = refl
  rest_fits [] h (path_part.Index j ∷ rest) g = refl
  rest_fits (x ∷ ps) h [] g = sym (no_more (out-CorePart x) (steps r ps))
  rest_fits (x ∷ ps) h (path_part.Member m ∷ rest) g = ap (λ p. fits_one p (path_part.Member m) && located.fits (seen r ps) rest) (seen_is r x) ∙ by (out-CorePart x) h.0 (rest_fits ps h.1 rest g)
    where
      index : (size : ℕ) (v : Option Number) (i : Option ℕ) → Finds v i → (fits_one (Element size v) (path_part.Member m) && located.fits (seen r ps) rest) ≡ fits (step_by r size i ∷ steps r ps) (Named m.0 ∷ path_steps (path_of rest))
      index size None None unknown = refl
      index size (Some v) (Some i) (number e) = refl
      index size (Some v) (Some i) (past e l) = refl
      index size None (Some i) f = elim f [ ]
      index size (Some v) None f = elim f [ ]

      by : (y : PartLayer) → IsFoundPart r y → located.fits (seen r ps) rest ≡ fits (steps r ps) (path_steps (path_of rest))
          → (fits_one (seen_of r y) (path_part.Member m) && located.fits (seen r ps) rest) ≡ fits (step_for r y ∷ steps r ps) (Named m.0 ∷ path_steps (path_of rest))
      by (tree.Member n) f e = ap (λ t. nat_eq n.0 m.0 && t) e
      by (tree.Index size e) f g = index size (value_in (facts_in r.known) e) (fold.static_index (cs r) (vs r) (term_of e)) f
  rest_fits (x ∷ ps) h (path_part.Index j ∷ rest) g = ap (λ p. fits_one p (path_part.Index j) && located.fits (seen r ps) rest) (seen_is r x) ∙ by (out-CorePart x) h.0 (rest_fits ps h.1 rest g.1)
    where
      index : (size : ℕ) (v : Option Number) (i : Option ℕ) → Finds v i → located.fits (seen r ps) rest ≡ fits (steps r ps) (path_steps (path_of rest))
          → (fits_one (Element size v) (path_part.Index j) && located.fits (seen r ps) rest) ≡ fits (step_by r size i ∷ steps r ps) (At j ∷ path_steps (path_of rest))
      index size None None unknown e = ap (λ t. nat_lt j size && t) e
      index size (Some v) (Some i) (number k) e = (λ z. is_number (k z) j && e z)
      index size (Some v) (Some i) (past k l) e = ap (λ o. is_number o j && located.fits (seen r ps) rest) k ∙ sym (ap (λ t. t && fits (steps r ps) (path_steps (path_of rest))) (too_large i j l g.0))
      index size None (Some i) f e = elim f [ ]
      index size (Some v) None f e = elim f [ ]

      by : (y : PartLayer) → IsFoundPart r y → located.fits (seen r ps) rest ≡ fits (steps r ps) (path_steps (path_of rest))
          → (fits_one (seen_of r y) (path_part.Index j) && located.fits (seen r ps) rest) ≡ fits (step_for r y ∷ steps r ps) (At j ∷ path_steps (path_of rest))
      by (tree.Member n) f e = refl
      by (tree.Index size e) f g = index size (value_in (facts_in r.known) e) (fold.static_index (cs r) (vs r) (term_of e)) f g

  may_is : (front : CellName) (ps : List CorePart) → AreFound r ps → (path : List PathPart) → AreSmallParts path
      → may_name front (seen r ps) path ≡ fits (steps_of (name_of front) ++ steps r ps) (path_steps (path_of path))
  may_is front ps h path g = by front.local ∙ ap (λ s. fits s (path_steps (path_of path))) (sym (append_assoc (map part_step (map part_of front.path)) (own_steps (own_of front.local) front.indices) (steps r ps)))
    where
      same : (o : Option (List PathPart)) → ((rest : List PathPart) → o ≡ Some rest → AreSmallParts rest)
          → unwrap_or (option_map (located.fits (seen r ps)) o) false ≡ unwrap_or (option_map (λ rest. fits (steps r ps) (path_steps (path_of rest))) o) false
      same None f = refl
      same (Some rest) f = rest_fits ps h rest (f rest refl)

      by : (o : Option (ℕ × Name)) → (if is_some o then false else unwrap_or (option_map (located.fits (seen r ps)) (rest_behind path front.path)) false)
          ≡ fits (map part_step (map part_of front.path) ++ (own_steps (own_of o) front.indices ++ steps r ps)) (path_steps (path_of path))
      by None = same (rest_behind path front.path) (small_rest path front.path g) ∙ sym (path_fits front.path (steps r ps) path)
      by (Some l) = sym (not_ours (map part_of front.path) l.0 (map At front.indices ++ steps r ps) (map part_of path))

  open_size_is : (front : CellName) (ps : List CorePart) → AreFound r ps → (ws : List VectorSize2) → HaveSmallPaths ws
      → first_size (λ v. may_name front (seen r ps) v.path) ws ≡ fold.size_at (map vector_of ws) (steps_of (name_of front) ++ steps r ps)
  open_size_is front ps h [] g = refl
  open_size_is front ps h (v ∷ ws) g = (λ i. if may_is front ps h v.path g.0 i then v.size else open_size_is front ps h ws g.1 i)

  -- ---- steps that are known, or one is past 32 bits, or isn't known

  data Shape (p : Places) (ps : List CorePart) : Type 0 where
    all_known : (q : List NameStep) → map (step_at false) (seen r ps) ≡ known q → steps r ps ≡ map step_in q → Shape p ps
    has_past : (a b : List Step) (i : ℕ) → 4294967296 ≤ i → steps r ps ≡ a ++ At i ∷ b → ((at : Spot) → walk p at (map (step_at false) (seen r ps)) ≡ None) → Shape p ps
    has_open : is_open (steps r ps) ≡ true → Shape p ps

  lost_behind : (p : Places) (ss : List (Option NameStep)) → ((at : Spot) → walk p at ss ≡ None) → (o : Option Spot) → option_and_then (λ to. walk p to ss) o ≡ None
  lost_behind p ss h None = refl
  lost_behind p ss h (Some at) = h at

  more_known : (p : Places) (x : CorePart) (ps : List CorePart) (s : NameStep) → step_at false (seen_of r (out-CorePart x)) ≡ Some s → step_for r (out-CorePart x) ≡ step_in s → Shape p ps → Shape p (x ∷ ps)
  more_known p x ps s e k (all_known q m n) = all_known (s ∷ q) (λ i. (ap (step_at false) (seen_is r x) ∙ e) i ∷ m i) (λ i. k i ∷ n i)
  more_known p x ps s e k (has_past a b i l n w) =
      has_past (step_in s ∷ a) b i l (λ z. k z ∷ n z)
      (λ at. ap (λ o. option_and_then (λ to. walk p to (map (step_at false) (seen r ps))) (option_and_then (leads p at) o)) (ap (step_at false) (seen_is r x) ∙ e) ∙ lost_behind p (map (step_at false) (seen r ps)) w (leads p at s))
  more_known p x ps (step.Member n) e k (has_open o) = has_open (ap (λ z. is_open (z ∷ steps r ps)) k ∙ o)
  more_known p x ps (step.Index n) e k (has_open o) = has_open (ap (λ z. is_open (z ∷ steps r ps)) k ∙ o)
  more_known p x ps (step.Local n) e k (has_open o) = has_open (ap (λ z. is_open (z ∷ steps r ps)) k ∙ o)

  more_past : (p : Places) (x : CorePart) (ps : List CorePart) (i : ℕ) → 4294967296 ≤ i → step_at false (seen_of r (out-CorePart x)) ≡ None → step_for r (out-CorePart x) ≡ At i → Shape p (x ∷ ps)
  more_past p x ps i l e k =
      has_past [] (steps r ps) i l (ap (λ z. z ∷ steps r ps) k)
      (λ at. ap (λ o. option_and_then (λ to. walk p to (map (step_at false) (seen r ps))) (option_and_then (leads p at) o)) (ap (step_at false) (seen_is r x) ∙ e))

  shape_is : (p : Places) (ps : List CorePart) → AreFound r ps → Shape p ps
  shape_is p [] h = all_known [] refl refl
  shape_is p (x ∷ ps) h = by (out-CorePart x) refl h.0 (shape_is p ps h.1)
    where
      index : (size : ℕ) (v : Option Number) (i : Option ℕ) → Finds v i → seen_of r (out-CorePart x) ≡ Element size v → step_for r (out-CorePart x) ≡ step_by r size i → Shape p ps → Shape p (x ∷ ps)
      index size None None unknown e k g = has_open (ap (λ z. is_open (z ∷ steps r ps)) k)
      index size (Some v) (Some i) (number s) e k g = more_known p x ps (step.Index i) (ap (step_at false) e ∙ ap (option_map step.Index) s) k g
      index size (Some v) (Some i) (past s l) e k g = more_past p x ps i l (ap (step_at false) e ∙ ap (option_map step.Index) s) k
      index size None (Some i) f e k g = elim f [ ]
      index size (Some v) None f e k g = elim f [ ]

      by : (y : PartLayer) → out-CorePart x ≡ y → IsFoundPart r y → Shape p ps → Shape p (x ∷ ps)
      by (tree.Member n) e f g = more_known p x ps (step.Member n) (ap (λ y. step_at false (seen_of r y)) e) (ap (step_for r) e) g
      by (tree.Index size a) e f g = index size (value_in (facts_in r.known) a) (fold.static_index (cs r) (vs r) (term_of a)) f (ap (seen_of r) e) (ap (step_for r) e) g

  map_on : (xs ys : List NameStep) → map step_in (xs ++ ys) ≡ map step_in xs ++ map step_in ys
  map_on [] ys = refl
  map_on (x ∷ xs) ys = ap (λ l. step_in x ∷ l) (map_on xs ys)

  module _ (t : IsTable r.places.now r.known.cells.now r.vectors.now) (front : CellName) (named : IsName front) (ps : List CorePart) (q : List NameStep) (m : map (step_at false) (seen r ps) ≡ known q) (n : steps r ps ≡ map step_in q) where
    -- what a name and known steps lead to
    spot_is : option_and_then (λ at. walk r.places.now at (map (step_at false) (seen r ps))) (name_spot r.places.now front) ≡ walk r.places.now top (known (table.steps_of front ++ q))
    spot_is =
        ap (λ ss. option_and_then (λ at. walk r.places.now at ss) (name_spot r.places.now front)) m
        ∙ ap (λ o. option_and_then (λ at. walk r.places.now at (known q)) o) (sym (name_walk r.places.now front named))
        ∙ sym (walk_on r.places.now top (known (table.steps_of front)) (known q))
        ∙ ap (walk r.places.now top) (sym (known_on (table.steps_of front) q))

    all_steps : map step_in (table.steps_of front ++ q) ≡ steps_of (name_of front) ++ steps r ps
    all_steps = map_on (table.steps_of front) q ∙ (λ i. sym (steps_same front) i ++ sym n i)

    size_there : unwrap_or (option_and_then (names.size_at r.places.now) (option_and_then (λ at. walk r.places.now at (map (step_at false) (seen r ps))) (name_spot r.places.now front))) 0
        ≡ fold.size_at (vs r) (steps_of (name_of front) ++ steps r ps)
    size_there =
        ap (λ o. unwrap_or (option_and_then (names.size_at r.places.now) o) 0) spot_is
        ∙ ap (λ o. unwrap_or o 0) (t.sizes_by (table.steps_of front ++ q))
        ∙ sizes_same (table.steps_of front ++ q) r.vectors.now
        ∙ ap (fold.size_at (vs r)) all_steps

    pointer_there : option_and_then (names.pointer_at r.places.now) (option_and_then (λ at. walk r.places.now at (map (step_at false) (seen r ps))) (name_spot r.places.now front))
        ≡ spec.cell_at true 0 (steps_of (name_of front) ++ steps r ps) (cs r)
    pointer_there =
        ap (option_and_then (names.pointer_at r.places.now)) spot_is
        ∙ t.pointers_by (table.steps_of front ++ q)
        ∙ cells_same true (table.steps_of front ++ q) 0 r.known.cells.now
        ∙ ap (λ s. spec.cell_at true 0 s (cs r)) all_steps

  large_here : (front : CellName) (ps : List CorePart) (a b : List Step) (i : ℕ) → 4294967296 ≤ i → steps r ps ≡ a ++ At i ∷ b → (q : List Step) → Small q → fits (steps_of (name_of front) ++ steps r ps) q ≡ false
  large_here front ps a b i l n q g =
      ap (λ s. fits (steps_of (name_of front) ++ s) q) n
      ∙ ap (λ s. fits s q) (sym (append_assoc (steps_of (name_of front)) a (At i ∷ b)))
      ∙ large_fits (steps_of (name_of front) ++ a) i b l g

  abbrev spot_behind : CellName → List CorePart → Option Spot
  spot_behind front ps = option_and_then (λ at. walk r.places.now at (map (step_at false) (seen r ps))) (name_spot r.places.now front)

  found_size_is : IsTable r.places.now r.known.cells.now r.vectors.now → HaveSmallPaths r.vectors.now → (front : CellName) → IsName front → (ps : List CorePart) → AreFound r ps → is_open (steps r ps) ≡ false
      → unwrap_or (option_and_then (names.size_at r.places.now) (spot_behind front ps)) 0 ≡ fold.size_at (vs r) (steps_of (name_of front) ++ steps r ps)
  found_size_is t g front named ps h c = by (shape_is r.places.now ps h)
    where
      by : Shape r.places.now ps → unwrap_or (option_and_then (names.size_at r.places.now) (spot_behind front ps)) 0 ≡ fold.size_at (vs r) (steps_of (name_of front) ++ steps r ps)
      by (all_known q m n) = size_there t front named ps q m n
      by (has_past a b i l n w) =
          ap (λ o. unwrap_or (option_and_then (names.size_at r.places.now) o) 0) (lost_behind r.places.now (map (step_at false) (seen r ps)) w (name_spot r.places.now front))
          ∙ sym (no_size (steps_of (name_of front) ++ steps r ps) r.vectors.now g (large_here front ps a b i l n))
      by (has_open e) = let x : true ≡ false = sym e ∙ c in absurd cc

  found_pointer_is : IsTable r.places.now r.known.cells.now r.vectors.now → HaveSmallNames r.known.cells.now → (front : CellName) → IsName front → (ps : List CorePart) → AreFound r ps → is_open (steps r ps) ≡ false
      → option_and_then (names.pointer_at r.places.now) (spot_behind front ps) ≡ spec.cell_at true 0 (steps_of (name_of front) ++ steps r ps) (cs r)
  found_pointer_is t g front named ps h c = by (shape_is r.places.now ps h)
    where
      by : Shape r.places.now ps → option_and_then (names.pointer_at r.places.now) (spot_behind front ps) ≡ spec.cell_at true 0 (steps_of (name_of front) ++ steps r ps) (cs r)
      by (all_known q m n) = pointer_there t front named ps q m n
      by (has_past a b i l n w) =
          ap (option_and_then (names.pointer_at r.places.now)) (lost_behind r.places.now (map (step_at false) (seen r ps)) w (name_spot r.places.now front))
          ∙ sym (no_pointer (steps_of (name_of front) ++ steps r ps) 0 r.known.cells.now g (large_here front ps a b i l n))
      by (has_open e) = let x : true ≡ false = sym e ∙ c in absurd cc

  known_size_is : IsTable r.places.now r.known.cells.now r.vectors.now → HaveSmallPaths r.vectors.now → (l : CoreLeft) → HasName r l → AreFound r l.parts → (size : ℕ)
      → known_size r l size ≡ fold.known_size (vs r) size (pattern (cs r) (left_of l))
  known_size_is t g l named h size = by (name_at r l.base) refl ∙ ap (fold.known_size (vs r) size) (sym (pattern_is r l))
    where
      inner : (front : CellName) → name_at r l.base ≡ Some front → (b : Bool) → list_any located.is_open (seen r l.parts) ≡ b
          → (if b then first_size (λ v. may_name front (seen r l.parts) v.path) r.vectors.now else found_size r l.base l.parts) ≡ fold.size_at (vs r) (steps_of (name_of front) ++ steps r l.parts)
      inner front e true o = open_size_is front l.parts h r.vectors.now g
      inner front e false o =
          ap (λ f. unwrap_or (option_and_then (names.size_at r.places.now) (option_and_then (λ at. walk r.places.now at (map (step_at false) (seen r l.parts))) (option_and_then (name_spot r.places.now) f))) 0) e
          ∙ found_size_is t g front (named front e) l.parts h (sym (open_parts r l.parts h) ∙ o)

      by : (o : Option CellName) → name_at r l.base ≡ o → size_by r l size o ≡ fold.known_size (vs r) size (longer_by r (name_steps r o) (steps r l.parts))
      by None e = refl
      by (Some front) e = λ i. if (choice_parts r false l.parts h ∙ sym (choice_behind (closed_is (name_of front)) (steps r l.parts))) i then size else inner front e (list_any located.is_open (seen r l.parts)) refl i

  pub size_of_is : IsTable r.places.now r.known.cells.now r.vectors.now → HaveSmallPaths r.vectors.now → (l : CoreLeft) → HasName r l → AreFound r l.parts → (size : ℕ) → size_of r l size ≡ fold.size_of (cs r) (vs r) size (left_of l)
  size_of_is t g l named h size = ap (λ n. if nat_eq size 4294967295 then n else size) (known_size_is t g l named h size)

  pub element_is : IsTable r.places.now r.known.cells.now r.vectors.now → HaveSmallPaths r.vectors.now → (l : CoreLeft) → HasName r l → AreFound r l.parts → (size : ℕ) (at : CoreExpr)
      → size_of r l size < 4294967296 → IsFound r at → left_of (element_on r l (size_of r l size) at) ≡ fold.element_of (cs r) (vs r) (left_of l) size (term_of at)
  element_is t g l named h size at s f =
      element_on_is r l (size_of r l size) at s f
      ∙ ap (λ n. fold.element_or (cs r) (vs r) (left_of l) (fold.in_range (cs r) (vs r) n (fold.static_index (cs r) (vs r) (term_of at))) (term.Index (left_of l) n (term_of at))) (size_of_is t g l named h size)

  pub pointer_is : IsTable r.places.now r.known.cells.now r.vectors.now → HaveSmallNames r.known.cells.now → (l : CoreLeft) → HasName r l → AreFound r l.parts → is_open (steps r l.parts) ≡ false
      → pointer_in r l ≡ option_and_then (λ q. spec.cell_at true 0 q (cs r)) (pattern (cs r) (left_of l))
  pointer_is t g l named h c = by (name_at r l.base) refl ∙ ap (option_and_then (λ q. spec.cell_at true 0 q (cs r))) (sym (pattern_is r l))
    where
      by : (o : Option CellName) → name_at r l.base ≡ o
          → option_and_then (names.pointer_at r.places.now) (option_and_then (λ at. walk r.places.now at (map (step_at false) (seen r l.parts))) (option_and_then (name_spot r.places.now) (name_at r l.base)))
          ≡ option_and_then (λ q. spec.cell_at true 0 q (cs r)) (longer_by r (name_steps r o) (steps r l.parts))
      by None e = ap (λ f. option_and_then (names.pointer_at r.places.now) (option_and_then (λ at. walk r.places.now at (map (step_at false) (seen r l.parts))) (option_and_then (name_spot r.places.now) f))) e
      by (Some front) e =
          ap (λ f. option_and_then (names.pointer_at r.places.now) (option_and_then (λ at. walk r.places.now at (map (step_at false) (seen r l.parts))) (option_and_then (name_spot r.places.now) f))) e
          ∙ found_pointer_is t g front (named front e) l.parts h c
