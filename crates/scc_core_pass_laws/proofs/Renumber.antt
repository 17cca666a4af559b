-- A core whose pointers' cells are gone is the design that it was, but for them.
use Rattle.std.proofs.Common.{◌≡◌, ℕ, zero, suc, Bool, true, false, ◌&&◌, List, [], ◌∷◌, map, Option, Some, None, option_map, refl, sym, ap, ◌∙◌, subst}
use Rattle.std.specs.Prelude.{take, length, filter, filter_map, find, cond, not, is_some, slice_get, unwrap_or, option_and_then, if◌then◌else◌}
use Rattle.std.specs.List.{cons_option}
use Rattle.scc_semantics.specs.Location.{Location, Part, same, same_path}
use Rattle.scc_semantics.specs.Expressions as body
use Rattle.scc_semantics.specs.Body as machine
use Rattle.scc_semantics.specs.Places as design
use Rattle.scc_semantics.specs.Places.{Places}
use Rattle.scc_semantics.specs.Design as running
use Rattle.scc_semantics.specs.Design.{Design, TopPort}
use Rattle.scc_core_spec.specs.Term.{Term, Literal, Load, Read, Convert, Unary, Binary, Choose, Bit, Range, Join, Left, Cell, Prefix, Null, Follow, Index, Pick, Whole, OneBit, Bits, CellName}
use Rattle.scc_core_spec.specs.Term as term
use Rattle.scc_core_spec.specs.Code.{Code, End, Put, Aim, If, Block, Loop, Exit, Wait}
use Rattle.scc_core_spec.specs.Program as program
use Rattle.scc_core_spec.specs.Program.{Program, Process, Edge, Reset, Sort, Input, Output, Signal, Variable, Local, Pointer, Port, is_pointer, is_input, is_output}
use Rattle.scc_core_spec.specs.Static.{Cells, fixed_word}
use Rattle.scc_core_spec.specs.Resolved.{Made, made_map}
use Rattle.scc_core_spec.specs.Unpointed.{unpointed, at_first}
use Rattle.scc_core_spec.specs.Renumbered.{is_kept_cell, new_number, renamed, renamed_left, renamed_pick, renamed_code, renamed_edge, renamed_reset, renamed_process, all_unpointed}
use Rattle.scc_core_spec.specs.Source.{Home, at_top, location_of, cell_left, expr_of, left_of, pick_of, body_of, process_named, cell_location, thing_of, cell_there, edge_at, reset_at, senses_at, sort_of, port_of, source_of}
use Rattle.scc_core_pass_laws.specs.Renumbering.{IsKeptCell, AreKept, IsKeptEdge, IsKeptReset}
use Rattle.scc_core_pass_laws.proofs.Pointless.{made-is, and-is, made-map-is}
use Rattle.scc_core_pass_laws.proofs.Clean.{IsClean, IsCleanLeft, IsCleanPick, IsCleanCode}

-- a cell that stays is found by its new number
pub renumbered-is : (cs : Cells) (n : ℕ) → IsKeptCell (slice_get cs n) → slice_get (filter is_kept_cell cs) (new_number cs n) ≡ slice_get cs n
renumbered-is [] zero h = refl
renumbered-is [] (suc n) h = refl
renumbered-is (c ∷ cs) zero h = ap (λ b. slice_get (cond (not b) (c ∷ filter is_kept_cell cs) (filter is_kept_cell cs)) 0) h
renumbered-is (c ∷ cs) (suc n) h = by (not (is_pointer c.sort)) (renumbered-is cs n h)
  where
    by : (b : Bool) → slice_get (filter is_kept_cell cs) (new_number cs n) ≡ slice_get cs n
        → slice_get (cond b (c ∷ filter is_kept_cell cs) (filter is_kept_cell cs)) (length (cond b (c ∷ filter is_kept_cell (take n cs)) (filter is_kept_cell (take n cs)))) ≡ slice_get cs n
    by true e = e
    by false e = e

abbrev kept_one : (program.Cell → Bool) → Cells → Option program.Cell
kept_one test cs = find (λ c. test c && not (is_pointer c.sort)) cs

abbrev pointer_one : (program.Cell → Bool) → Cells → Option program.Cell
pointer_one test cs = find (λ c. test c && is_pointer c.sort) cs

-- cells that aren't looked for are gone
pub find-kept : (test : program.Cell → Bool) (cs : Cells) → find (λ c. test c && not (is_pointer c.sort)) (filter is_kept_cell cs) ≡ find (λ c. test c && not (is_pointer c.sort)) cs
find-kept test [] = refl
find-kept test (c ∷ cs) = by (is_pointer c.sort) refl (test c) refl (find-kept test cs)
  where
    by : (b : Bool) → is_pointer c.sort ≡ b → (t : Bool) → test c ≡ t → kept_one test (filter is_kept_cell cs) ≡ kept_one test cs → kept_one test (cond (not (is_pointer c.sort)) (c ∷ filter is_kept_cell cs) (filter is_kept_cell cs)) ≡ cond (test c && not (is_pointer c.sort)) (Some c) (kept_one test cs)
    by true e true f ih = ap (λ b. kept_one test (cond (not b) (c ∷ filter is_kept_cell cs) (filter is_kept_cell cs))) e ∙ (ih ∙ sym ((λ z. cond (f z && not (e z)) (Some c) (kept_one test cs))))
    by true e false f ih = ap (λ b. kept_one test (cond (not b) (c ∷ filter is_kept_cell cs) (filter is_kept_cell cs))) e ∙ (ih ∙ sym ((λ z. cond (f z && not (e z)) (Some c) (kept_one test cs))))
    by false e t f ih = ap (λ b. kept_one test (cond (not b) (c ∷ filter is_kept_cell cs) (filter is_kept_cell cs))) e ∙ ap (λ o. cond (test c && not (is_pointer c.sort)) (Some c) o) ih

-- no pointer is left
find-none : (test : program.Cell → Bool) (cs : Cells) → find (λ c. test c && is_pointer c.sort) (filter is_kept_cell cs) ≡ None
find-none test [] = refl
find-none test (c ∷ cs) = by (is_pointer c.sort) refl (test c) refl (find-none test cs)
  where
    by : (b : Bool) → is_pointer c.sort ≡ b → (t : Bool) → test c ≡ t → pointer_one test (filter is_kept_cell cs) ≡ None → pointer_one test (cond (not (is_pointer c.sort)) (c ∷ filter is_kept_cell cs) (filter is_kept_cell cs)) ≡ None
    by true e t f ih = ap (λ b. pointer_one test (cond (not b) (c ∷ filter is_kept_cell cs) (filter is_kept_cell cs))) e ∙ ih
    by false e true f ih = ap (λ b. pointer_one test (cond (not b) (c ∷ filter is_kept_cell cs) (filter is_kept_cell cs))) e ∙ ((λ z. cond (f z && e z) (Some c) (pointer_one test (filter is_kept_cell cs))) ∙ ih)
    by false e false f ih = ap (λ b. pointer_one test (cond (not b) (c ∷ filter is_kept_cell cs) (filter is_kept_cell cs))) e ∙ ((λ z. cond (f z && e z) (Some c) (pointer_one test (filter is_kept_cell cs))) ∙ ih)

module _ (p : Program) where
  -- names of processes stay
  pub named-same : (rs qs : List Process) → all_unpointed p rs ≡ Made qs → (n : ℕ) (path : List Part) → process_named n path qs ≡ process_named n path rs
  named-same [] qs e n path = ap (process_named n path) (sym (made-is e))
  named-same (r ∷ rs) qs e n path =
      let a = and-is (unpointed (at_first p) r.body) (λ body. made_map (λ more. renamed_process (new_number p.cells) r body ∷ more) (all_unpointed p rs)) qs e in
      let b = made-map-is (λ more. renamed_process (new_number p.cells) r a.0 ∷ more) (all_unpointed p rs) qs a.2 in
      ap (process_named n path) (sym b.2) ∙ ap (λ m. if same_path path r.name.path then n else m) (named-same rs b.0 b.1 (suc n) path)

  -- each process with its new body
  pub record Told (r : Process) (qs : List Process) (n : ℕ) : Type 0 where
    pub body : Code
    pub made : unpointed (at_first p) r.body ≡ Made body
    pub at : slice_get qs n ≡ Some (renamed_process (new_number p.cells) r body)

  pub told : (rs qs : List Process) → all_unpointed p rs ≡ Made qs → (n : ℕ) (r : Process) → slice_get rs n ≡ Some r → Told r qs n
  told [] qs e n r g = absurd cc
  told (x ∷ rs) qs e n r g = subst (λ qs. Told r qs n) b.2 (by n g (λ k g. told rs b.0 b.1 k r g))
    where
      a : (c : Code) × (unpointed (at_first p) x.body ≡ Made c) × (made_map (λ more. renamed_process (new_number p.cells) x c ∷ more) (all_unpointed p rs) ≡ Made qs)
      a = and-is (unpointed (at_first p) x.body) (λ body. made_map (λ more. renamed_process (new_number p.cells) x body ∷ more) (all_unpointed p rs)) qs e

      b : (more : List Process) × (all_unpointed p rs ≡ Made more) × (renamed_process (new_number p.cells) x a.0 ∷ more ≡ qs)
      b = made-map-is (λ more. renamed_process (new_number p.cells) x a.0 ∷ more) (all_unpointed p rs) qs a.2

      by : (n : ℕ) → slice_get (x ∷ rs) n ≡ Some r → ((k : ℕ) → slice_get rs k ≡ Some r → Told r b.0 k) → Told r (renamed_process (new_number p.cells) x a.0 ∷ b.0) n
      by zero g ih = let z : x ≡ r = cc in subst (λ r. Told r (renamed_process (new_number p.cells) x a.0 ∷ b.0) 0) z (record { body = a.0; made = a.1; at = refl })
      by (suc n) g ih = let u = ih n g in record { body = u.body; made = u.made; at = u.at }

module _ (home : Home) (p : Program) (qs : List Process) (made : all_unpointed p p.processes ≡ Made qs) (constant : Location → Option ℕ) where
  abbrev pub m : Program
  m = record { top = p.top; cells = filter is_kept_cell p.cells; vectors = p.vectors; processes = qs }

  pub location-same : (c : program.Cell) → cell_location home m c ≡ cell_location home p c
  location-same c = ap (λ i. location_of home i c.name) (named-same p p.processes qs made 0 c.name.path)

  there-same : (l : Location) → cell_there home m false l ≡ cell_there home p false l
  there-same l = (λ z. find (λ c. same (location-same c z) l && not (is_pointer c.sort)) (filter is_kept_cell p.cells)) ∙ find-kept (λ c. same (cell_location home p c) l) p.cells

  none-there : (l : Location) → cell_there home m true l ≡ None
  none-there l = find-none (λ c. same (cell_location home m c) l) p.cells

  pub places-same : (source_of home m constant).places ≡ record { things = (source_of home p constant).places.things; pointers = λ l. false }
  places-same = λ z. record {
    things = λ l. option_and_then (λ c. thing_of home p c c.sort) (there-same l z);
    pointers = λ l. is_some (none-there l z);
  }

  pub fixed-same : (source_of home m constant).fixed ≡ (source_of home p constant).fixed
  fixed-same = λ z l. option_and_then (λ c. fixed_word c.sort) (there-same l z)

  ports-of : (cs : Cells) → filter_map (port_of home m) (filter is_kept_cell cs) ≡ filter_map (port_of home p) cs
  ports-of [] = refl
  ports-of (c ∷ cs) = by c.sort refl (ports-of cs)
    where
      port : Location → Sort → Option TopPort
      port l u = if is_input u then Some (record { location = l; direction = running.Input }) else (if is_output u then Some (record { location = l; direction = running.Output }) else None)

      kept : (u : Sort) → is_pointer u ≡ false → c.sort ≡ u → filter_map (port_of home m) (filter is_kept_cell cs) ≡ filter_map (port_of home p) cs
          → filter_map (port_of home m) (cond (not (is_pointer c.sort)) (c ∷ filter is_kept_cell cs) (filter is_kept_cell cs)) ≡ filter_map (port_of home p) (c ∷ cs)
      kept u h e ih =
          let f : is_pointer c.sort ≡ false = ap is_pointer e ∙ h in
          ap (λ b. filter_map (port_of home m) (cond (not b) (c ∷ filter is_kept_cell cs) (filter is_kept_cell cs))) f
          ∙ (λ z. cons_option (if is_input c.sort then Some (record { location = location-same c z; direction = running.Input }) else (if is_output c.sort then Some (record { location = location-same c z; direction = running.Output }) else None)) (ih z))

      by : (u : Sort) → c.sort ≡ u → filter_map (port_of home m) (filter is_kept_cell cs) ≡ filter_map (port_of home p) cs
          → filter_map (port_of home m) (cond (not (is_pointer c.sort)) (c ∷ filter is_kept_cell cs) (filter is_kept_cell cs)) ≡ filter_map (port_of home p) (c ∷ cs)
      by (Pointer t) e ih =
          ap (λ u. filter_map (port_of home m) (cond (not (is_pointer u)) (c ∷ filter is_kept_cell cs) (filter is_kept_cell cs))) e
          ∙ (ih ∙ sym (ap (λ u. cons_option (if is_input u then Some (record { location = cell_location home p c; direction = running.Input }) else (if is_output u then Some (record { location = cell_location home p c; direction = running.Output }) else None)) (filter_map (port_of home p) cs)) e))
      by Input e ih = kept Input refl e ih
      by Output e ih = kept Output refl e ih
      by Signal e ih = kept Signal refl e ih
      by (Variable x b) e ih = kept (Variable x b) refl e ih
      by (Local j) e ih = kept (Local j) refl e ih
      by (Port r) e ih = kept (Port r) refl e ih

  pub ports-same : (source_of home m constant).ports ≡ (source_of home p constant).ports
  ports-same = ports-of p.cells

  abbrev num : ℕ → ℕ
  num = new_number p.cells

  cell-same : (n : ℕ) → IsKeptCell (slice_get p.cells n) → option_map (cell_location home m) (slice_get m.cells (num n)) ≡ option_map (cell_location home p) (slice_get p.cells n)
  cell-same n h = ap (option_map (cell_location home m)) (renumbered-is p.cells n h) ∙ (λ z. option_map (λ c. location-same c z) (slice_get p.cells n))

  senses-same : (ns : List ℕ) → AreKept p.cells ns → senses_at home m (map num ns) ≡ senses_at home p ns
  senses-same [] h = refl
  senses-same (n ∷ ns) h = λ z. cons_option (cell-same n h.0 z) (senses-same ns h.1 z)

  -- bodies by their cells
  abbrev E : ℕ → Term → body.Expr
  E i e = expr_of home p.cells i e

  mutual
    term-same : (i : ℕ) (e : Term) → IsClean p.cells e → expr_of home m.cells i (renamed num e) ≡ expr_of home p.cells i e
    term-same i (Literal o k x) h = refl
    term-same i (Load o k l) h = ap (body.Load k) (left-same i l h)
    term-same i (Read o k l) h = ap (body.Read k) (left-same i l h)
    term-same i (Convert o k e) h = ap (body.Convert k) (term-same i e h)
    term-same i (Unary o k r e) h = ap (body.Unary r) (term-same i e h)
    term-same i (Binary o k r e f) h = λ z. body.Binary r (term-same i e h.0 z) (term-same i f h.1 z)
    term-same i (Choose o k t e f) h = λ z. body.Choose k (term-same i t h.0 z) (term-same i e h.1 z) (term-same i f h.2 z)
    term-same i (Bit o e j) h = λ z. body.Bit (term-same i e h.0 z) (term-same i j h.1 z)
    term-same i (Range o k e hi lo) h = ap (λ e. body.Range k e hi lo) (term-same i e h)
    term-same i (Join o k e f) h = λ z. body.Join k (term-same i e h.0 z) (term-same i f h.1 z)

    left-same : (i : ℕ) (l : Left) → IsCleanLeft p.cells l → left_of home m.cells i (renamed_left num l) ≡ left_of home p.cells i l
    left-same i (Cell r n) h = ap (cell_left home p.cells i) (renumbered-is p.cells n h)
    left-same i (Prefix r n) h = refl
    left-same i (Null r) h = refl
    left-same i (Follow r s l) h = absurd h
    left-same i (term.Member l n) h = ap (λ l. body.Field l n) (left-same i l h)
    left-same i (Index l size e) h = λ z. body.Indexed (left-same i l h.0 z) (term-same i e h.1 z)

  pick-same : (i : ℕ) (k : Pick) → IsCleanPick p.cells k → pick_of home m.cells i (renamed_pick num k) ≡ pick_of home p.cells i k
  pick-same i Whole h = refl
  pick-same i (OneBit e) h = ap body.OneBit (term-same i e h)
  pick-same i (Bits hi lo) h = refl

  pub body-same : (i : ℕ) (c : Code) → IsCleanCode p.cells c → body_of home m.cells i (renamed_code num c) ≡ body_of home p.cells i c
  body-same i End h = refl
  body-same i (Put o l k e r) h = λ z. machine.Assign (left-same i l h.0 z) (pick-same i k h.1 z) (term-same i e h.2 z) (body-same i r h.3 z)
  body-same i (Aim o to t r) h = absurd h
  body-same i (If o t a b r) h = λ z. machine.If (term-same i t h.0 z) (body-same i a h.1 z) (body-same i b h.2 z) (body-same i r h.3 z)
  body-same i (Block o b r) h = λ z. machine.Block (body-same i b h.0 z) (body-same i r h.1 z)
  body-same i (Loop o n b r) h = λ z. machine.Loop (body-same i b h.0 z) (body-same i r h.1 z)
  body-same i (Exit o n r) h = ap (machine.Exit n) (body-same i r h)
  body-same i (Wait o l n r) h = ap (machine.Wait l n) (body-same i r h)

  clock-same : (n : ℕ) → IsKeptCell (slice_get p.cells n) → unwrap_or (option_map (cell_location home m) (slice_get m.cells (num n))) (at_top []) ≡ unwrap_or (option_map (cell_location home p) (slice_get p.cells n)) (at_top [])
  clock-same n h = ap (λ o. unwrap_or o (at_top [])) (cell-same n h)

  edge-same : (e : Edge) → IsKeptCell (slice_get p.cells e.cell) → edge_at home m (renamed_edge num e) ≡ edge_at home p e
  edge-same e h = λ z. record { clock = clock-same e.cell h z; rising = e.rising }

  reset-same : (r : Option Reset) → IsKeptReset p.cells r → option_map (reset_at home m) (option_map (renamed_reset num) r) ≡ option_map (reset_at home p) r
  reset-same None h = refl
  reset-same (Some r) h = λ z. let x : design.Reset = record { root = clock-same r.cell h z; level = r.level; asynchronous = r.asynchronous } in Some x

  pub sort-same : (q : Process) (c : Code) (b : Bool) (e : Option Edge) → AreKept p.cells q.senses → IsKeptEdge p.cells e → IsKeptReset p.cells q.reset
      → sort_of home m (renamed_process num q c) b (option_map (renamed_edge num) e) ≡ sort_of home p q b e
  sort-same q c true (Some e) ns h r = λ z. design.Thread (edge-same e h z) (reset-same q.reset r z)
  sort-same q c false (Some e) ns h r = λ z. design.Clocked (edge-same e h z)
  sort-same q c true None ns h r = λ z. design.Combinational (senses-same q.senses ns z)
  sort-same q c false None ns h r = λ z. design.Combinational (senses-same q.senses ns z)
