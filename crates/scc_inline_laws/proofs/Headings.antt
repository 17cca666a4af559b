-- A design and its copy have the same ports, and their processes the same sorts.
use Rattle.std.proofs.Common.{◌≡◌, ◌⊎◌, inl, inr, ℕ, zero, suc, Bool, true, false, not, cond, List, [], ◌∷◌, ◌++◌, map, length, filter, filter_map, take, Option, Some, None, option_map, unwrap_or, is_some, slice_get, if◌then◌else◌, refl, sym, ap, ◌∙◌, subst}
use Rattle.std.specs.List.{cons_option}
use Rattle.scc_bits_kinds.specs.declared.kind.Kind.TheVariants as kind
use Rattle.scc_semantics.specs.Location.{Location, Root, Part}
use Rattle.scc_semantics.specs.Places as thing
use Rattle.scc_semantics.specs.Design as running
use Rattle.scc_core_spec.specs.Program as prog
use Rattle.scc_core_spec.specs.Static.{Cells, fixed_word}
use Rattle.scc_core_spec.specs.Source as source
use Rattle.scc_core_spec.specs.Source.{at_top, cell_location}
use Rattle.scc_elab_spec.specs.Program.{Plain, Member}
use Rattle.scc_elab_spec.specs.Design as design
use Rattle.scc_elab_spec.specs.Design.{Design, Object, Node, Module, Port, Signal, Variable, Pointer, is_module}
use Rattle.scc_elab_spec.specs.Types.{is_direct}
use Rattle.scc_elab_spec.specs.Cells.{object_cell, object_cells, cells_from, cell_number, path_of, is_top, parent, port_sort, cell_of, is_fixed, target_of}
use Rattle.scc_elab_spec.specs.Meant as meant
use Rattle.scc_elab_spec.specs.Numbering.{numbered}
use Rattle.scc_elab_spec.specs.Bodies.{elements, number_kind}
use Rattle.scc_inline_spec.specs.Inlined.{member_of_root, own_cell, own_cells, all_cells, process_path, copied_process}
use Rattle.scc_states_laws.proofs.Values.{some_same}
use Rattle.scc_inline_process_laws.specs.Own.{OwnMoves}
use Rattle.scc_inline_laws.specs.OrderlyDesign.{IsThing, AreThings, IsEdge, IsReset}
use Rattle.scc_inline_process_laws.specs.Whole.{spoken_design, copied_design}
use Rattle.scc_inline_laws.proofs.Found.{home, core, cells-none, cells-some}

map-append : {A B : Type 0} (f : A → Option B) (xs ys : List A) → filter_map f (xs ++ ys) ≡ filter_map f xs ++ filter_map f ys
map-append f [] ys = refl
map-append f (x ∷ xs) ys = by (f x) (map-append f xs ys)
  where
    by : (o : Option _) → filter_map f (xs ++ ys) ≡ filter_map f xs ++ filter_map f ys → cons_option o (filter_map f (xs ++ ys)) ≡ cons_option o (filter_map f xs) ++ filter_map f ys
    by None e = e
    by (Some y) e = ap (λ z. y ∷ z) e

append-none : {A : Type 0} (xs ys : List A) → ys ≡ [] → xs ++ ys ≡ xs
append-none [] ys e = e
append-none (x ∷ xs) ys e = ap (λ z. x ∷ z) (append-none xs ys e)

pub get-append : {A : Type 0} (xs ys : List A) (n : ℕ) (x : A) → slice_get xs n ≡ Some x → slice_get (xs ++ ys) n ≡ Some x
get-append [] ys n x e = cc
get-append (y ∷ xs) ys zero x e = e
get-append (y ∷ xs) ys (suc n) x e = get-append xs ys n x e

own-append : (a b : Cells) → OwnMoves a → OwnMoves b → OwnMoves (a ++ b)
own-append [] b x y = y
own-append (c ∷ a) b x y = (x.0, own-append a b x.1 y)

module _ (p : Plain) (d : Design) where
  -- modules have no cell
  has-cell : (m : ℕ) (o : Object) (n : Node) → ((is_module n ≡ true) × (object_cell p d m o n ≡ None) × (meant.port_of p d o n ≡ None))
      ⊎ ((is_module n ≡ false) × (c : prog.Cell) × (object_cell p d m o n ≡ Some c) × (cell_location (home p d) (core p d) c ≡ at_top o.path) × (source.port_of (home p d) (core p d) c ≡ meant.port_of p d o n) × (c.name.own ≡ None))
  has-cell m o (Module k) = inl (refl, refl, refl)
  has-cell m o (Port k output root) = inr (refl, cell_of o.path k (port_sort (is_top (parent d o.path)) output (path_of d root)) o, refl, refl, by (is_top (parent d o.path)) output, refl)
    where
      by : (b u : Bool) → source.port_of (home p d) (core p d) (cell_of o.path k (port_sort b u (path_of d root)) o)
          ≡ (if b then Some (record { location = meant.at_path p d o.path; direction = if u then running.Output else running.Input }) else None)
      by true true = refl
      by true false = refl
      by false u = refl
  has-cell m o (Signal k) = inr (refl, cell_of o.path k prog.Signal o, refl, refl, refl, refl)
  has-cell m o (Variable k w) = inr (refl, cell_of o.path k (prog.Variable w (is_fixed p d o.path)) o, refl, refl, refl, refl)
  has-cell m o (Pointer t) = inr (refl, cell_of o.path kind.Bool (prog.Pointer (target_of d m t)) o, refl, refl, refl, refl)

  object-ports : (n : ℕ) (os : List Object) → filter_map (source.port_of (home p d) (core p d)) (cells_from p d n os) ≡ filter_map (λ o. meant.port_of p d o o.node) os
  object-ports n [] = refl
  object-ports n (o ∷ os) = by (has-cell n o o.node) (object-ports (suc n) os)
    where
      by : ((is_module o.node ≡ true) × (object_cell p d n o o.node ≡ None) × (meant.port_of p d o o.node ≡ None))
          ⊎ ((is_module o.node ≡ false) × (c : prog.Cell) × (object_cell p d n o o.node ≡ Some c) × (cell_location (home p d) (core p d) c ≡ at_top o.path) × (source.port_of (home p d) (core p d) c ≡ meant.port_of p d o o.node) × (c.name.own ≡ None))
          → filter_map (source.port_of (home p d) (core p d)) (cells_from p d (suc n) os) ≡ filter_map (λ o. meant.port_of p d o o.node) os
          → filter_map (source.port_of (home p d) (core p d)) (cells_from p d n (o ∷ os)) ≡ cons_option (meant.port_of p d o o.node) (filter_map (λ o. meant.port_of p d o o.node) os)
      by (inl x) ih = ap (filter_map (source.port_of (home p d) (core p d))) (cells-none p d n o os x.1) ∙ (ih ∙ sym (ap (λ y. cons_option y (filter_map (λ o. meant.port_of p d o o.node) os)) x.2))
      by (inr x) ih = ap (filter_map (source.port_of (home p d) (core p d))) (cells-some p d n o os x.1 x.2)
          ∙ (ap (λ y. cons_option y (filter_map (source.port_of (home p d) (core p d)) (cells_from p d (suc n) os))) x.4 ∙ ap (cons_option (meant.port_of p d o o.node)) ih)

  own-ports : (i n : ℕ) (path : List Part) (m : Member) (all : List (List ℕ)) → filter_map (source.port_of (home p d) (core p d)) (map (own_cell path i n m) all) ≡ []
  own-ports i n path m [] = refl
  own-ports i n path m (is ∷ all) = ap (λ y. cons_option y (filter_map (source.port_of (home p d) (core p d)) (map (own_cell path i n m) all))) (by (is_direct m.shape.reach)) ∙ own-ports i n path m all
    where
      by : (b : Bool) → source.port_of (home p d) (core p d) (record {
        name = record { path = path; own = Some (record { number = n; identifier = m.name }); indices = is };
        kind = number_kind m.shape.base;
        sort = if b then prog.Local i else prog.Pointer None;
        place = m.place;
      }) ≡ None
      by true = refl
      by false = refl

  process-ports : (i f : ℕ) (path : List Part) (n : ℕ) (rs : List Root) → filter_map (source.port_of (home p d) (core p d)) (own_cells p i f path n rs) ≡ []
  process-ports i f path n [] = refl
  process-ports i f path n (r ∷ rs) = map-append (source.port_of (home p d) (core p d)) (unwrap_or (option_map (λ m. map (own_cell path i n m) (elements m.shape.sizes)) (member_of_root p f r)) []) (own_cells p i f path (suc n) rs)
      ∙ (ap (λ z. z ++ filter_map (source.port_of (home p d) (core p d)) (own_cells p i f path (suc n) rs)) (by (member_of_root p f r)) ∙ process-ports i f path (suc n) rs)
    where
      by : (o : Option Member) → filter_map (source.port_of (home p d) (core p d)) (unwrap_or (option_map (λ m. map (own_cell path i n m) (elements m.shape.sizes)) o) []) ≡ []
      by None = refl
      by (Some m) = own-ports i n path m (elements m.shape.sizes)

  all-ports : (i : ℕ) (qs : List design.Process) → filter_map (source.port_of (home p d) (core p d)) (all_cells p d i qs) ≡ []
  all-ports i [] = refl
  all-ports i (q ∷ qs) = map-append (source.port_of (home p d) (core p d)) (own_cells p i q.function (process_path p d q) 0 (numbered p i q.function)) (all_cells p d (suc i) qs)
      ∙ (ap (λ z. z ++ filter_map (source.port_of (home p d) (core p d)) (all_cells p d (suc i) qs)) (process-ports i q.function (process_path p d q) 0 (numbered p i q.function)) ∙ all-ports (suc i) qs)

  pub ports-same : (constant : Location → Option ℕ) → (spoken_design p d constant).ports ≡ (copied_design p d constant).ports
  ports-same constant = sym (map-append (source.port_of (home p d) (core p d)) (object_cells p d) (all_cells p d 0 d.processes)
      ∙ (append-none (filter_map (source.port_of (home p d) (core p d)) (object_cells p d)) (filter_map (source.port_of (home p d) (core p d)) (all_cells p d 0 d.processes)) (all-ports 0 d.processes) ∙ object-ports 0 d.objects))

  -- the cell of an object by its number
  object-at : (k : ℕ) (os : List Object) (n : ℕ) (o : Object) → slice_get os n ≡ Some o → is_module o.node ≡ false
      → (c : prog.Cell) × (slice_get (cells_from p d k os) (length (filter (λ o. not (is_module o.node)) (take n os))) ≡ Some c) × (cell_location (home p d) (core p d) c ≡ at_top o.path)
  object-at k [] n o e z = cc
  object-at k (u ∷ os) n o e z = by n e (has-cell k u u.node) (λ n e. object-at (suc k) os n o e z)
    where
      by : (n : ℕ) → slice_get (u ∷ os) n ≡ Some o → ((is_module u.node ≡ true) × (object_cell p d k u u.node ≡ None) × (meant.port_of p d u u.node ≡ None))
          ⊎ ((is_module u.node ≡ false) × (c : prog.Cell) × (object_cell p d k u u.node ≡ Some c) × (cell_location (home p d) (core p d) c ≡ at_top u.path) × (source.port_of (home p d) (core p d) c ≡ meant.port_of p d u u.node) × (c.name.own ≡ None))
          → ((n : ℕ) → slice_get os n ≡ Some o → (c : prog.Cell) × (slice_get (cells_from p d (suc k) os) (length (filter (λ o. not (is_module o.node)) (take n os))) ≡ Some c) × (cell_location (home p d) (core p d) c ≡ at_top o.path))
          → (c : prog.Cell) × (slice_get (cells_from p d k (u ∷ os)) (length (filter (λ o. not (is_module o.node)) (take n (u ∷ os)))) ≡ Some c) × (cell_location (home p d) (core p d) c ≡ at_top o.path)
      by zero e (inl x) ih = absurd (let w : u ≡ o = some_same e in let y = ap (λ o. is_module o.node) w ∙ z in cc)
      by zero e (inr x) ih = let w : u ≡ o = some_same e in (x.1, ap (λ cs. slice_get cs 0) (cells-some p d k u os x.1 x.2), x.3 ∙ ap (λ o. at_top o.path) w)
      by (suc n) e (inl x) ih = let y = ih n e in (
        y.0,
        ap (λ cs. slice_get cs (length (filter (λ o. not (is_module o.node)) (u ∷ take n os)))) (cells-none p d k u os x.1)
            ∙ (ap (λ b. slice_get (cells_from p d (suc k) os) (length (cond (not b) (u ∷ filter (λ o. not (is_module o.node)) (take n os)) (filter (λ o. not (is_module o.node)) (take n os))))) x.0 ∙ y.1),
        y.2,
      )
      by (suc n) e (inr x) ih = let y = ih n e in (
        y.0,
        ap (λ cs. slice_get cs (length (filter (λ o. not (is_module o.node)) (u ∷ take n os)))) (cells-some p d k u os x.1 x.2)
            ∙ (ap (λ b. slice_get (x.1 ∷ cells_from p d (suc k) os) (length (cond (not b) (u ∷ filter (λ o. not (is_module o.node)) (take n os)) (filter (λ o. not (is_module o.node)) (take n os))))) x.0 ∙ y.1),
        y.2,
      )

  thing-at : (n : ℕ) → IsThing p d n → option_map (cell_location (home p d) (core p d)) (slice_get (core p d).cells (cell_number d n)) ≡ Some (at_top (path_of d n))
  thing-at n t = let x = object-at 0 d.objects n t.0 t.1 t.2 in
      ap (option_map (cell_location (home p d) (core p d))) (get-append (object_cells p d) (all_cells p d 0 d.processes) (cell_number d n) x.0 x.1) ∙ (ap Some x.2 ∙ sym (ap (λ o. Some (at_top (unwrap_or (option_map (λ o. o.path) o) []))) t.1))

  senses-same : (ns : List ℕ) → AreThings p d ns → source.senses_at (home p d) (core p d) (map (cell_number d) ns) ≡ map (λ n. meant.at_path p d (path_of d n)) ns
  senses-same [] t = refl
  senses-same (n ∷ ns) t = ap (λ o. cons_option o (source.senses_at (home p d) (core p d) (map (cell_number d) ns))) (thing-at n t.0) ∙ ap (λ z. at_top (path_of d n) ∷ z) (senses-same ns t.1)

  edge-same : (e : design.Edge) → IsThing p d e.root → source.edge_at (home p d) (core p d) (record { cell = cell_number d e.root; rising = e.rising }) ≡ record { clock = meant.at_path p d (path_of d e.root); rising = e.rising }
  edge-same e t = ap (λ o. let x : thing.Edge = record { clock = unwrap_or o (at_top []); rising = e.rising } in x) (thing-at e.root t)

  reset-same : (o : Option design.Reset) → IsReset p d o → option_map (source.reset_at (home p d) (core p d)) (option_map (λ r. record { cell = cell_number d r.root; level = r.level; asynchronous = r.asynchronous }) o)
      ≡ option_map (λ r. record { root = meant.at_path p d (path_of d r.root); level = r.level; asynchronous = r.asynchronous }) o
  reset-same None t = refl
  reset-same (Some r) t = ap (λ o. let x : thing.Reset = record { root = unwrap_or o (at_top []); level = r.level; asynchronous = r.asynchronous } in Some x) (thing-at r.root t)

  pub sort-same : (i : ℕ) (q : design.Process) → AreThings p d q.senses → IsEdge p d q.edge → IsReset p d q.reset
      → meant.sort_of p d q q.is_thread q.edge ≡ source.sort_of (home p d) (core p d) (copied_process p d i q) q.is_thread (option_map (λ e. record { cell = cell_number d e.root; rising = e.rising }) q.edge)
  sort-same i q s e r = by q.is_thread q.edge e
    where
      by : (b : Bool) (o : Option design.Edge) → IsEdge p d o → meant.sort_of p d q b o ≡ source.sort_of (home p d) (core p d) (copied_process p d i q) b (option_map (λ e. record { cell = cell_number d e.root; rising = e.rising }) o)
      by true (Some e) t = sym (ap (λ z. thing.Thread z (option_map (source.reset_at (home p d) (core p d)) (copied_process p d i q).reset)) (edge-same e t) ∙ ap (thing.Thread (record { clock = meant.at_path p d (path_of d e.root); rising = e.rising })) (reset-same q.reset r))
      by false (Some e) t = sym (ap thing.Clocked (edge-same e t))
      by true None t = sym (ap thing.Combinational (senses-same q.senses s))
      by false None t = sym (ap thing.Combinational (senses-same q.senses s))

  -- cells of locals are none that no process can change
  own-moves : (i n : ℕ) (path : List Part) (m : Member) (all : List (List ℕ)) → OwnMoves (map (own_cell path i n m) all)
  own-moves i n path m [] = tt
  own-moves i n path m (is ∷ all) = ((λ e. by (is_direct m.shape.reach)), own-moves i n path m all)
    where
      by : (b : Bool) → fixed_word (if b then prog.Local i else prog.Pointer None) ≡ None
      by true = refl
      by false = refl

  process-moves : (i f : ℕ) (path : List Part) (n : ℕ) (rs : List Root) → OwnMoves (own_cells p i f path n rs)
  process-moves i f path n [] = tt
  process-moves i f path n (r ∷ rs) = own-append (unwrap_or (option_map (λ m. map (own_cell path i n m) (elements m.shape.sizes)) (member_of_root p f r)) []) (own_cells p i f path (suc n) rs) (by (member_of_root p f r)) (process-moves i f path (suc n) rs)
    where
      by : (o : Option Member) → OwnMoves (unwrap_or (option_map (λ m. map (own_cell path i n m) (elements m.shape.sizes)) o) [])
      by None = tt
      by (Some m) = own-moves i n path m (elements m.shape.sizes)

  all-moves : (i : ℕ) (qs : List design.Process) → OwnMoves (all_cells p d i qs)
  all-moves i [] = tt
  all-moves i (q ∷ qs) = own-append (own_cells p i q.function (process_path p d q) 0 (numbered p i q.function)) (all_cells p d (suc i) qs) (process-moves i q.function (process_path p d q) 0 (numbered p i q.function)) (all-moves (suc i) qs)

  object-moves : (n : ℕ) (os : List Object) → OwnMoves (cells_from p d n os)
  object-moves n [] = tt
  object-moves n (o ∷ os) = by (has-cell n o o.node) (object-moves (suc n) os)
    where
      by : ((is_module o.node ≡ true) × (object_cell p d n o o.node ≡ None) × (meant.port_of p d o o.node ≡ None))
          ⊎ ((is_module o.node ≡ false) × (c : prog.Cell) × (object_cell p d n o o.node ≡ Some c) × (cell_location (home p d) (core p d) c ≡ at_top o.path) × (source.port_of (home p d) (core p d) c ≡ meant.port_of p d o o.node) × (c.name.own ≡ None))
          → OwnMoves (cells_from p d (suc n) os) → OwnMoves (cells_from p d n (o ∷ os))
      by (inl x) ih = subst OwnMoves (sym (cells-none p d n o os x.1)) ih
      by (inr x) ih = subst OwnMoves (sym (cells-some p d n o os x.1 x.2)) ((λ e. absurd (let z = ap is_some x.5 in cc)), ih)

  pub core-moves : OwnMoves (core p d).cells
  core-moves = own-append (object_cells p d) (all_cells p d 0 d.processes) (object-moves 0 d.objects) (all-moves 0 d.processes)
