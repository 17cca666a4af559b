-- Rounds, settling, inputs and edges of the design are those of the registers.
use Rattle.std.proofs.Common.{◌≡◌, ℕ, zero, suc, ◌+◌, ◌<◌, ◌^◌, Bool, true, false, ◌&&◌, nat_eq, cond, filter, length, List, [], ◌∷◌, Option, Some, None, refl, sym, ap, ◌∙◌, subst, arith, if◌then◌else◌, slice_get, is_some}
use Rattle.std.specs.Prelude.{option_map, option_and_then, unwrap_or}
use Rattle.std.specs.List.{list_any}
use Rattle.scc_bits_kinds.specs.Kinds.{width_of}
use Rattle.scc_semantics.specs.Location.{Location, same}
use Rattle.scc_semantics.specs.Places as design
use Rattle.scc_semantics.specs.Design as running
use Rattle.scc_semantics.specs.Process.{State, Went, Well, and_then, is_active, phase}
use Rattle.scc_semantics.specs.Process as process
use Rattle.scc_semantics.specs.Run.{set_inputs, restarts, restarts_by, has_edge, resumes_at}
use Rattle.scc_semantics.specs.Run as run
use Rattle.scc_core_spec.specs.Program as program
use Rattle.scc_core_spec.specs.Program.{Program, Process, Sort, Input, Output, Signal, Variable, Local, Pointer, Port, Edge, Reset, is_root, is_held, is_input, is_combinational, is_combinational_by}
use Rattle.scc_core_spec.specs.Static.{Cells}
use Rattle.scc_core_spec.specs.Uses.{among}
use Rattle.scc_core_spec.specs.Constants.{written, constant_if}
use Rattle.scc_core_spec.specs.Source.{Home, at_top, cell_location, processes_from, sort_of, edge_at, reset_at}
use Rattle.scc_blocks_spec.specs.Turns.{Regs, Taking, constant_at, acted, is_loaded, has_clock}
use Rattle.scc_blocks_spec.specs.Turns as turns
use Rattle.scc_blocks_spec.specs.Tied.{Tied}
use Rattle.scc_core_effect_laws.specs.Follows.{IsSoundCore, Obeys, Does, Tracks, design_of}
use Rattle.scc_core_laws.specs.Stepped.{IsStepOf, RegsStep, SameEdge}
use Rattle.scc_core_effect_laws.proofs.Names.{or-left, none-some, true-false}
use Rattle.scc_core_effect_laws.proofs.Unsure.{sort-of}
use Rattle.scc_core_laws.proofs.Resumes.{source_process}
use Rattle.scc_core_laws.proofs.Phases.{phase-follows, word-is-held}

module _ (home : Home) (p : Program) (resolved : IsSoundCore home p) (obeys : Obeys p) (bounds : ℕ → ℕ) (does : Does home p bounds) (tracks : Tracks home p bounds) where
  abbrev cs : Cells
  cs = p.cells

  abbrev at : program.Cell → Location
  at x = cell_location home p x

  -- it goes well, to a state that is tied
  pub record Comes (run : Went State) (g : Regs) : Type 0 where
    pub to : State
    pub goes : run ≡ Well to
    pub tied : Tied home p to g

  comes-then : (o : Went State) (f : State → Went State) (g h : Regs) → Comes o g → ((s : State) → Tied home p s g → Comes (f s) h) → Comes (and_then o f) h
  comes-then o f g h c more = let m = more c.to c.tied in record { to = m.to; goes = ap (λ o. and_then o f) c.goes ∙ m.goes; tied = m.tied }

  phase-comes : (takes : Taking) (test : running.Process → Bool) → ((i : ℕ) (q : Process) → slice_get p.processes i ≡ Some q → test (source_process home p i q) ≡ takes i q)
      → (s : State) (g : Regs) → Tied home p s g → Comes (phase bounds (design_of home p) test s) (acted p takes g)
  phase-comes takes test tests s g tied =
      let f = phase-follows home p resolved obeys bounds does tracks takes test tests s g tied in
      record { to = f.to; goes = f.goes; tied = f.stays }

  -- ---- settling
  pub combines : (i : ℕ) (q : Process) → slice_get p.processes i ≡ Some q → process.is_combinational (source_process home p i q) ≡ is_combinational q
  combines i q e = by q.is_thread q.edge (resolved.edges i q e)
    where
      by : (t : Bool) (o : Option Edge) → (t ≡ true → is_some o ≡ true) → process.is_levels (sort_of home p q t o) ≡ is_combinational_by t o
      by true None h = true-false (sym (h refl))
      by true (Some d) h = refl
      by false None h = refl
      by false (Some d) h = refl

  pub rounds-come : (n : ℕ) (s : State) (g : Regs) → Tied home p s g → Comes (process.rounds bounds (design_of home p) n s) (turns.rounds p n g)
  rounds-come zero s g tied = record { to = s; goes = refl; tied = tied }
  rounds-come (suc n) s g tied =
      comes-then (phase bounds (design_of home p) process.is_combinational s) (process.rounds bounds (design_of home p) n) (acted p (λ i q. is_combinational q) g) (turns.rounds p (suc n) g)
      (phase-comes (λ i q. is_combinational q) process.is_combinational combines s g tied) (λ t k. rounds-come n t (acted p (λ i q. is_combinational q) g) k)

  pub same-count : (qs : List Process) (i : ℕ) → ((k : ℕ) → slice_get p.processes (i + k) ≡ slice_get qs k) → length (filter process.is_combinational (processes_from home p i qs)) ≡ length (filter is_combinational qs)
  same-count [] i h = refl
  same-count (q ∷ qs) i h = by (process.is_combinational (source_process home p i q)) (is_combinational q) (combines i q here) (same-count qs (suc i) later)
    where
      later : (k : ℕ) → slice_get p.processes (suc i + k) ≡ slice_get qs k
      later k = ap (slice_get p.processes) next ∙ h (suc k)
        where
          next : suc i + k ≡ i + suc k
          next = omega arith

      here : slice_get p.processes i ≡ Some q
      here = ap (slice_get p.processes) first ∙ h 0
        where
          first : i ≡ i + 0
          first = omega arith

      xs : List running.Process
      xs = filter process.is_combinational (processes_from home p (suc i) qs)

      ys : List Process
      ys = filter is_combinational qs

      by : (a b : Bool) → a ≡ b → length xs ≡ length ys → length (cond a (source_process home p i q ∷ xs) xs) ≡ length (cond b (q ∷ ys) ys)
      by true true e m = ap suc m
      by false false e m = m
      by true false e m = true-false e
      by false true e m = true-false (sym e)

  pub settle-comes : (s : State) (g : Regs) → Tied home p s g → Comes (process.settle bounds (design_of home p) s) (turns.settled p g)
  settle-comes s g tied =
      subst (λ n. Comes (process.rounds bounds (design_of home p) (suc n) s) (turns.settled p g)) (sym (same-count p.processes 0 (λ k. ap (slice_get p.processes) (from k))))
      (rounds-come (suc (length (filter is_combinational p.processes))) s g tied)
    where
      from : (k : ℕ) → 0 + k ≡ k
      from k = omega arith

  -- ---- inputs
  pub given-tied : (x : run.Step) (y : RegsStep) → IsStepOf home p x y → (s : State) (g : Regs) → Tied home p s g → Tied home p (run.with_inputs (design_of home p) x.inputs s) (turns.with_inputs y.given g)
  given-tied x y ok s g tied = record {
    fits = λ c z e h. fit-or c z e h (y.given c) refl (g.word c) (tied.fits c z e h);
    proper = λ c z e h. subst (λ n. n < 2 ^ width_of z.kind) (sym (ok.inputs c z s.store.words e h)) (fit-or c z e h (y.given c) refl (s.store.words (at z)) (tied.proper c z e h));
    words = λ c z e k. ok.inputs c z s.store.words e (word-is-held p c z e k) ∙ ap (unwrap_or (y.given c)) (tied.words c z e k);
    constants = λ c z w e k. ok.inputs c z s.store.words e (constant-held c w z e k) ∙ constant-or c z w e k (y.given c) refl;
    places = tied.places;
    begins = tied.begins;
  }
    where
      fit-or : (c : ℕ) (z : program.Cell) → slice_get cs c ≡ Some z → is_held z.sort ≡ true → (o : Option ℕ) → y.given c ≡ o → (n : ℕ) → n < 2 ^ width_of z.kind → unwrap_or (y.given c) n < 2 ^ width_of z.kind
      fit-or c z e h None q n f = subst (λ o. unwrap_or o n < 2 ^ width_of z.kind) (sym q) f
      fit-or c z e h (Some v) q n f = subst (λ o. unwrap_or o n < 2 ^ width_of z.kind) (sym q) (ok.fit c v z e q).1

      constant-held : (c w : ℕ) (x : program.Cell) → slice_get cs c ≡ Some x → constant_at p c ≡ Some w → is_held x.sort ≡ true
      constant-held c w x e k = by x.sort (among c (written p)) (sym (ap (option_and_then (λ x. constant_if (among c (written p)) x.sort)) e) ∙ k)
        where
          by : (s : Sort) (b : Bool) → constant_if b s ≡ Some w → is_held s ≡ true
          by (Variable v f) b h = refl
          by Signal b h = refl
          by Output b h = refl
          by s true h = none-some w h
          by Input false h = none-some w h
          by (Local j) false h = none-some w h
          by (Pointer t) false h = none-some w h
          by (Port t) false h = none-some w h

      constant-or : (c : ℕ) (z : program.Cell) (w : ℕ) → slice_get cs c ≡ Some z → constant_at p c ≡ Some w → (o : Option ℕ) → y.given c ≡ o → unwrap_or (y.given c) (s.store.words (at z)) ≡ w
      constant-or c z w e k None q = ap (λ o. unwrap_or o (s.store.words (at z))) q ∙ tied.constants c z w e k
      constant-or c z w e k (Some v) q = by z.sort (among c (written p)) (ok.fit c v z e q).0 (sym (ap (option_and_then (λ x. constant_if (among c (written p)) x.sort)) e) ∙ k)
        where
          by : {A : Type 0} (s : Sort) (b : Bool) → is_input s ≡ true → constant_if b s ≡ Some w → A
          by Input true h m = none-some w m
          by Input false h m = none-some w m
          by Output b h m = true-false (sym h)
          by Signal b h m = true-false (sym h)
          by (Variable v f) b h m = true-false (sym h)
          by (Local j) b h m = true-false (sym h)
          by (Pointer t) b h m = true-false (sym h)
          by (Port t) b h m = true-false (sym h)

  -- ---- asynchronous resets
  reset-active : (i : ℕ) (q : Process) → slice_get p.processes i ≡ Some q → (s : State) (g : Regs) → Tied home p s g → (r : Reset) → q.reset ≡ Some r → is_active s.store.words (reset_at home p r) ≡ turns.reset_at g.word (Some r)
  reset-active i q here s g tied r e =
      let root = resolved.reset_roots i q r here e in
      let x = sort-of is_root cs r.cell root in
      let place : (reset_at home p r).root ≡ at x.0 = ap (λ o. unwrap_or (option_map (cell_location home p) o) (at_top [])) x.1 in
      ap (λ n. nat_eq n (if r.level then 1 else 0)) (ap s.store.words place ∙ tied.words r.cell x.0 x.1 (or-left _ _ root))

  pub restarts-are : (s : State) (g : Regs) → Tied home p s g → (i : ℕ) (q : Process) → slice_get p.processes i ≡ Some q → restarts s (source_process home p i q) ≡ (q.is_thread && is_loaded g.word q.reset)
  restarts-are s g tied i q here = by q.is_thread q.edge (resolved.edges i q here) q.reset refl
    where
      by : (t : Bool) (o : Option Edge) → (t ≡ true → is_some o ≡ true) → (r : Option Reset) → q.reset ≡ r → restarts_by s.store.words (sort_of home p q t o) ≡ (t && is_loaded g.word q.reset)
      by true None h r e = true-false (sym (h refl))
      by true (Some d) h None e =
          ap (λ r. restarts_by s.store.words (design.Thread (edge_at home p d) (option_map (reset_at home p) r))) e ∙ sym (ap (is_loaded g.word) e)
      by true (Some d) h (Some r) e =
          ap (λ r. restarts_by s.store.words (design.Thread (edge_at home p d) (option_map (reset_at home p) r))) e
          ∙ ap (λ b. r.asynchronous && b) (reset-active i q here s g tied r e) ∙ sym (ap (is_loaded g.word) e)
      by false None h r e = refl
      by false (Some d) h r e = refl

  pub begun-comes : (x : run.Step) (y : RegsStep) → IsStepOf home p x y → (s : State) (g : Regs) → Tied home p s g → Comes (run.begun bounds (design_of home p) x.inputs s) (turns.begun p y.given g)
  begun-comes x y ok s g tied =
      let t = run.with_inputs (design_of home p) x.inputs s in
      let h = turns.with_inputs y.given g in
      let there : Tied home p t h = given-tied x y ok s g tied in
      let takes : Taking = λ i q. q.is_thread && is_loaded h.word q.reset in
      comes-then (phase bounds (design_of home p) (restarts t) t) (process.settle bounds (design_of home p)) (acted p takes h) (turns.begun p y.given g)
      (phase-comes takes (restarts t) (restarts-are t h there) t h there) (λ s k. settle-comes s (acted p takes h) k)

  -- ---- edges
  pub edges-are : (locations : List Location) (cells : List ℕ) → SameEdge home p (Some locations) (Some cells) → (i : ℕ) (q : Process) → slice_get p.processes i ≡ Some q → resumes_at locations (source_process home p i q) ≡ has_clock cells q.edge
  edges-are locations cells agree i q here = by q.is_thread q.edge refl (resolved.edges i q here)
    where
      clock : (d : Edge) → q.edge ≡ Some d → list_any (same (edge_at home p d).clock) locations ≡ among d.cell cells
      clock d e =
          let root = resolved.edge_roots i q d here e in
          let x = sort-of is_root cs d.cell root in
          ap (λ o. list_any (same (unwrap_or (option_map (cell_location home p) o) (at_top []))) locations) x.1 ∙ agree d.cell x.0 x.1 x.2

      by : (t : Bool) (o : Option Edge) → q.edge ≡ o → (t ≡ true → is_some q.edge ≡ true) → has_edge locations (sort_of home p q t o) ≡ has_clock cells o
      by true None e h = true-false (sym (h refl) ∙ ap is_some e)
      by true (Some d) e h = clock d e
      by false None e h = refl
      by false (Some d) e h = clock d e

  pub edged-comes : (locations : List Location) (cells : List ℕ) → SameEdge home p (Some locations) (Some cells) → (s : State) (g : Regs) → Tied home p s g → Comes (run.edged bounds (design_of home p) locations s) (turns.edged p cells g)
  edged-comes locations cells same s g tied =
      let takes : Taking = λ i q. has_clock cells q.edge in
      comes-then (phase bounds (design_of home p) (resumes_at locations) s) (process.settle bounds (design_of home p)) (acted p takes g) (turns.edged p cells g)
      (phase-comes takes (resumes_at locations) (edges-are locations cells same) s g tied) (λ t k. settle-comes t (acted p takes g) k)
