-- Where a design's first edges find resets active, its registers' do.
use Rattle.std.proofs.Common.{◌≡◌, ℕ, zero, suc, ◌<◌, ◌^◌, nat_eq, Bool, true, false, not, ◌&&◌, ◌||◌, List, [], ◌∷◌, ◌++◌, length, filter, Option, Some, None, refl, sym, ap, ◌∙◌, subst, slice_get, if◌then◌else◌}
use Rattle.std.specs.Prelude.{map, option_map, unwrap_or}
use Rattle.std.specs.List.{list_any, list_all}
use Rattle.scc_semantics.specs.Location.{Location, same}
use Rattle.scc_semantics.specs.Places as design
use Rattle.scc_semantics.specs.Process.{is_active}
use Rattle.scc_semantics.specs.Run.{Step, Shown, Observation, FitSteps}
use Rattle.scc_semantics.specs.Start.{FindsResets, finds_reset, resets_found}
use Rattle.scc_svtree.specs.declared.module.SvModule.{SvModule}
use Rattle.scc_svtree.specs.Steps.{StepInput, input_at}
use Rattle.scc_blocks_spec.specs.Emitted.{step_of}
use Rattle.scc_core_spec.specs.Program.{Program, Process, Edge, Reset, is_root, is_held, is_combinational}
use Rattle.scc_core_spec.specs.Source.{Home, at_top, cell_location, edge_at, processes_from, sort_of}
use Rattle.scc_core_spec.specs.Source as source
use Rattle.scc_core_spec.specs.Uses.{width_at, has_sort}
use Rattle.scc_blocks_spec.specs.Effect.{Place}
use Rattle.scc_blocks_spec.specs.Tied.{Registers}
use Rattle.scc_blocks_spec.specs.Turns.{Regs, Taking, acted, rounds, settled, with_inputs, begun, edged, has_clock, is_loaded}
use Rattle.scc_blocks_spec.specs.Turns as turns
use Rattle.scc_blocks_spec.specs.Shown.{sight_of}
use Rattle.scc_blocks_run_laws.specs.Pieces.{BodyBy, IsThreadCode}
use Rattle.scc_blocks_run_laws.specs.Blocks.{IsProper}
use Rattle.scc_blocks_run_laws.specs.Follows.{IsModuleOf, Turn, SameTurn, FindsReset, FindResets, after_turn}
use Rattle.scc_blocks_run_laws.proofs.Acted.{place-taken, place-rests}
use Rattle.scc_blocks_laws.proofs.Proper.{acted-proper, rounds-proper}
use Rattle.scc_core_effect_laws.specs.Follows.{IsSoundCore, design_of}
use Rattle.scc_core_laws.specs.Given.{regs_step_of, cells_at}
use Rattle.scc_core_laws.specs.Stepped.{Sees, SeesStep, SeesAll, SameEdge, regs_step, regs_shown}
use Rattle.scc_core_effect_laws.proofs.Names.{true-false, none-some, or-left}
use Rattle.scc_core_effect_laws.proofs.Unsure.{sort-of}
use Rattle.scc_core_laws.proofs.Starting.{step-of}
use Rattle.scc_drive_stages_laws.specs.Joined.{turn_of}

any-append : (f : Location → Bool) (a b : List Location) → list_any f (a ++ b) ≡ true → list_any f b ≡ false → list_any f a ≡ true
any-append f [] b h k = true-false (sym h ∙ k)
any-append f (l ∷ a) b h k = by (f l) h (λ h. any-append f a b h k)
  where
    by : (z : Bool) → (z || list_any f (a ++ b)) ≡ true → (list_any f (a ++ b) ≡ true → list_any f a ≡ true) → (z || list_any f a) ≡ true
    by true h more = refl
    by false h more = more h

all-at : (home : Home) (p : Program) (f : design.Sort → Bool) (qs : List Process) (i k : ℕ) (q : Process) → list_all (λ p. f p.sort) (processes_from home p i qs) ≡ true → slice_get qs k ≡ Some q
    → f (sort_of home p q q.is_thread q.edge) ≡ true
all-at home p f [] i k q h e = none-some q e
all-at home p f (o ∷ qs) i zero q h e = let one : o ≡ q = cc in subst (λ q. f (sort_of home p q q.is_thread q.edge) ≡ true) one (first (f (sort_of home p o o.is_thread o.edge)) h)
  where
    first : (z : Bool) → (z && list_all (λ p. f p.sort) (processes_from home p (suc i) qs)) ≡ true → z ≡ true
    first true h = refl
    first false h = h
all-at home p f (o ∷ qs) i (suc k) q h e = all-at home p f qs (suc i) k q (second (f (sort_of home p o o.is_thread o.edge)) h) e
  where
    second : (z : Bool) → (z && list_all (λ p. f p.sort) (processes_from home p (suc i) qs)) ≡ true → list_all (λ p. f p.sort) (processes_from home p (suc i) qs) ≡ true
    second true h = h
    second false h = true-false (sym h)

module _ (many : Bool) (p : Program) (r : Registers) (m : SvModule) (mo : IsModuleOf many p r m) where
  abbrev HasPlace : Regs → ℕ → Type 0
  HasPlace g i = (place : Place) × (g.place i ≡ Some place)

  taken : (takes : Taking) (g : Regs) → IsProper p r g → (i : ℕ) (q : Process) → slice_get p.processes i ≡ Some q → q.is_thread ≡ true → takes i q ≡ true → HasPlace (acted p takes g) i
  taken takes g pr i q s t k =
      let l = mo.steady.goes i q g pr s in let w = mo.steady.waits i q g l.0 pr s l.1 t in
      (w.0, place-taken p takes g i q l.0 s (λ z. k z && t z) l.1 ∙ w.1)

  kept : (takes : Taking) (g : Regs) → IsProper p r g → (i : ℕ) (q : Process) → slice_get p.processes i ≡ Some q → q.is_thread ≡ true → HasPlace g i → HasPlace (acted p takes g) i
  kept takes g pr i q s t h = by (takes i q) refl
    where
      by : (b : Bool) → takes i q ≡ b → HasPlace (acted p takes g) i
      by true k = taken takes g pr i q s t k
      by false k = (h.0, place-rests p takes g i q s (ap (λ k. k && q.is_thread) k) ∙ h.1)

  rounds-kept : (n : ℕ) (g : Regs) → IsProper p r g → (i : ℕ) (q : Process) → slice_get p.processes i ≡ Some q → q.is_thread ≡ true → HasPlace g i → HasPlace (rounds p n g) i
  rounds-kept zero g pr i q s t h = h
  rounds-kept (suc n) g pr i q s t h = rounds-kept n (acted p (λ i q. is_combinational q) g) (acted-proper p r m mo.built mo.steady (λ i q. is_combinational q) g pr) i q s t (kept (λ i q. is_combinational q) g pr i q s t h)

  settled-proper' : (g : Regs) → IsProper p r g → IsProper p r (settled p g)
  settled-proper' g pr = rounds-proper p r m mo.built mo.steady (suc (length (filter is_combinational p.processes))) g pr

  settled-kept : (g : Regs) → IsProper p r g → (i : ℕ) (q : Process) → slice_get p.processes i ≡ Some q → q.is_thread ≡ true → HasPlace g i → HasPlace (settled p g) i
  settled-kept g pr i q s t h = rounds-kept (suc (length (filter is_combinational p.processes))) g pr i q s t h

  inputs-proper : (k : ℕ → ℕ) (t : Turn) (s : StepInput) → SameTurn p r m k t s → (g : Regs) → IsProper p r g → IsProper p r (with_inputs t.inputs g)
  inputs-proper k t s same g pr = record {
    fits = λ c v e. by c v e (input_at m.vars v) refl;
    held = λ c h. held c h (t.inputs c) refl;
    constants = λ c w h e. ap (λ o. unwrap_or o (g.word c)) (same.constants c w e) ∙ pr.constants c w h e;
    places = pr.places;
  }
    where
      held : (c : ℕ) → has_sort is_held p.cells c ≡ true → (o : Option ℕ) → t.inputs c ≡ o → unwrap_or (t.inputs c) (g.word c) < 2 ^ width_at p.cells c
      held c h None k = subst (λ o. unwrap_or o (g.word c) < 2 ^ width_at p.cells c) (sym k) (pr.held c h)
      held c h (Some w) k = subst (λ o. unwrap_or o (g.word c) < 2 ^ width_at p.cells c) (sym k) (same.fits c w h k)

      by : (c v : ℕ) → r.variable c ≡ Some v → (b : Bool) → input_at m.vars v ≡ b → unwrap_or (t.inputs c) (g.word c) < 2 ^ width_at p.cells c
      by c v e true i = let d = same.given c v e i in subst (λ o. unwrap_or o (g.word c) < 2 ^ width_at p.cells c) (sym d.0) d.1
      by c v e false i = subst (λ o. unwrap_or o (g.word c) < 2 ^ width_at p.cells c) (sym (same.others c v e i)) (pr.fits c v e)

  abbrev loads : (ℕ → Option ℕ) → Regs → Taking
  loads inputs g = λ i q. q.is_thread && is_loaded (with_inputs inputs g).word q.reset

  begun-proper : (k : ℕ → ℕ) (t : Turn) (s : StepInput) → SameTurn p r m k t s → (g : Regs) → IsProper p r g → IsProper p r (begun p t.inputs g)
  begun-proper k t s same g pr = settled-proper' _ (acted-proper p r m mo.built mo.steady (loads t.inputs g) (with_inputs t.inputs g) (inputs-proper k t s same g pr))

  begun-kept : (k : ℕ → ℕ) (t : Turn) (s : StepInput) → SameTurn p r m k t s → (g : Regs) → IsProper p r g → (i : ℕ) (q : Process) → slice_get p.processes i ≡ Some q → q.is_thread ≡ true → HasPlace g i → HasPlace (begun p t.inputs g) i
  begun-kept k t s same g pr i q z e h =
      let a = inputs-proper k t s same g pr in
      settled-kept (acted p (loads t.inputs g) (with_inputs t.inputs g)) (acted-proper p r m mo.built mo.steady (loads t.inputs g) (with_inputs t.inputs g) a) i q z e (kept (loads t.inputs g) (with_inputs t.inputs g) a i q z e h)

  abbrev edges : List ℕ → Taking
  edges at = λ i q. has_clock at q.edge

  edged-proper : (at : List ℕ) (g : Regs) → IsProper p r g → IsProper p r (edged p at g)
  edged-proper at g pr = settled-proper' (acted p (edges at) g) (acted-proper p r m mo.built mo.steady (edges at) g pr)

  edged-kept : (at : List ℕ) (g : Regs) → IsProper p r g → (i : ℕ) (q : Process) → slice_get p.processes i ≡ Some q → q.is_thread ≡ true → HasPlace g i → HasPlace (edged p at g) i
  edged-kept at g pr i q s t h = settled-kept (acted p (edges at) g) (acted-proper p r m mo.built mo.steady (edges at) g pr) i q s t (kept (edges at) g pr i q s t h)

  edged-gives : (at : List ℕ) (g : Regs) → IsProper p r g → (i : ℕ) (q : Process) → slice_get p.processes i ≡ Some q → q.is_thread ≡ true → has_clock at q.edge ≡ true → HasPlace (edged p at g) i
  edged-gives at g pr i q s t k = settled-kept (acted p (edges at) g) (acted-proper p r m mo.built mo.steady (edges at) g pr) i q s t (taken (edges at) g pr i q s t k)

  has-reset : (i : ℕ) (q : Process) → slice_get p.processes i ≡ Some q → q.is_thread ≡ true → (o : Reset) × (q.reset ≡ Some o)
  has-reset i q s t =
      let b = (mo.built.acts i q s).is_block in
      let c : IsThreadCode (sight_of p i q) b.numbers.width b.wide q b.body = subst (λ z. BodyBy z (sight_of p i q) b.numbers.width b.wide q b.body) t b.is_body in
      (c.reset, c.has_reset)

  module _ (home : Home) (resolved : IsSoundCore home p) where
    abbrev clock : Edge → Location
    clock e = (edge_at home p e).clock

    abbrev Ready : List Location → Regs → Type 0
    Ready before g = (i : ℕ) (q : Process) (e : Edge) → slice_get p.processes i ≡ Some q → q.is_thread ≡ true → q.edge ≡ Some e → list_any (same (clock e)) before ≡ true → HasPlace g i

    clock-at : (i : ℕ) (q : Process) (e : Edge) → slice_get p.processes i ≡ Some q → q.edge ≡ Some e → (at : List Location) (cells : List ℕ) → SameEdge home p (Some at) (Some cells) → list_any (same (clock e)) at ≡ has_clock cells q.edge
    clock-at i q e s k at cells edge =
        let x = sort-of is_root p.cells e.cell (resolved.edge_roots i q e s k) in
        ap (λ o. list_any (same (unwrap_or (option_map (cell_location home p) o) (at_top []))) at) x.1 ∙ edge e.cell x.0 x.1 x.2 ∙ sym (ap (has_clock cells) k)

    active : (i : ℕ) (q : Process) (o : Reset) → slice_get p.processes i ≡ Some q → q.reset ≡ Some o → (z : Observation) (h : Regs) → Sees home p z h → is_active z.words (source.reset_at home p o) ≡ turns.reset_at h.word q.reset
    active i q o s k z h sees =
        let root = resolved.reset_roots i q o s k in
        let x = sort-of is_root p.cells o.cell root in
        ap (λ y. nat_eq (z.words (unwrap_or (option_map (cell_location home p) y) (at_top []))) (if o.level then 1 else 0)) x.1
        ∙ ap (λ n. nat_eq n (if o.level then 1 else 0)) (sees.words o.cell x.0 x.1 (or-left _ _ root))
        ∙ sym (ap (turns.reset_at h.word) k)

    finds-one : (before at : List Location) (cells : List ℕ) → SameEdge home p (Some at) (Some cells) → (z : Observation) (h : Regs) → Sees home p z h → Ready before h
        → resets_found (design_of home p) before at z.words ≡ true → FindsReset p (Some cells) h
    finds-one before at cells edge z h sees ready found i q s t has none = by-edge q.edge refl
      where
        by-edge : (o : Option Edge) → q.edge ≡ o → turns.reset_at h.word q.reset ≡ true
        by-edge None k = true-false (sym (sym (ap (has_clock cells) k) ∙ has))
        by-edge (Some e) k =
            let o = has-reset i q s t in
            sym (active i q o.0 s o.1 z h sees) ∙ last (list_any (same (clock e)) at) (list_any (same (clock e)) before) (clock-at i q e s k at cells edge ∙ has) refl
            (sym ((λ j. finds_reset before at z.words (sort_of home p q (t j) (k j))) ∙ ap (λ r. finds_reset before at z.words (design.Thread (edge_at home p e) (option_map (source.reset_at home p) r))) o.1) ∙ all-at home p (finds_reset before at z.words) p.processes 0 i q found s)
          where
            last : (a b : Bool) → a ≡ true → list_any (same (clock e)) before ≡ b → (not a || (b || is_active z.words (source.reset_at home p (has-reset i q s t).0))) ≡ true → is_active z.words (source.reset_at home p (has-reset i q s t).0) ≡ true
            last true false u v w = w
            last true true u v w = let d = ready i q e s t k v in none-some d.0 (sym none ∙ d.1)
            last false b u v w = true-false (sym u)

    module _ (k : ℕ → ℕ) (text : Location → List ℕ) (same-turn : (x : Step) → Rattle.scc_semantics.specs.Run.FitsStep (design_of home p) x → SameTurn p r m k (turn_of (regs_step_of home p x)) (step_of text (design_of home p) m x)) where
      pub finds : (xs : List Step) (before : List Location) (os : List Shown) (g : Regs) → FitSteps (design_of home p) xs → IsProper p r g → Ready before g
          → SeesAll home p os (regs_shown p (map (regs_step_of home p) xs) g) → FindsResets (design_of home p) before xs os → FindResets p (map turn_of (map (regs_step_of home p) xs)) g
      finds [] before os g fit pr ready sees found = tt
      finds (x ∷ xs) before [] g fit pr ready sees found = absurd sees
      finds (x ∷ xs) before (o ∷ os) g fit pr ready sees found =
          by x.edge (step-of home p resolved x fit.0).edge sees.0 sees.1 found.0 found.1 (λ b h. finds xs b os h fit.1)
        where
          y : Turn
          y = turn_of (regs_step_of home p x)

          h : Regs
          h = begun p (regs_step_of home p x).given g

          proper : IsProper p r h
          proper = begun-proper k (turn_of (regs_step_of home p x)) (step_of text (design_of home p) m x) (same-turn x fit.0) g pr

          ready-h : Ready before h
          ready-h i q e s t z n = begun-kept k (turn_of (regs_step_of home p x)) (step_of text (design_of home p) m x) (same-turn x fit.0) g pr i q s t (ready i q e s t z n)

          by : (e : Option (List Location)) → SameEdge home p e (option_map (λ l. cells_at home p l 0 p.cells) e)
              → SeesStep home p o (regs_step p (record { given = (regs_step_of home p x).given; edge = option_map (λ l. cells_at home p l 0 p.cells) e }) g).1
              → SeesAll home p os (regs_shown p (map (regs_step_of home p) xs) (regs_step p (record { given = (regs_step_of home p x).given; edge = option_map (λ l. cells_at home p l 0 p.cells) e }) g).0)
              → resets_found (design_of home p) before (unwrap_or e []) o.before.words ≡ true → FindsResets (design_of home p) (before ++ unwrap_or e []) xs os
              → ((b : List Location) (h : Regs) → IsProper p r h → Ready b h → SeesAll home p os (regs_shown p (map (regs_step_of home p) xs) h) → FindsResets (design_of home p) b xs os
              → FindResets p (map turn_of (map (regs_step_of home p) xs)) h)
              → FindsReset p (option_map (λ l. cells_at home p l 0 p.cells) e) h × FindResets p (map turn_of (map (regs_step_of home p) xs)) (after_turn p (option_map (λ l. cells_at home p l 0 p.cells) e) h)
          by None edge one more this later next = (tt, next (before ++ []) h proper (λ i q e s t z n. ready-h i q e s t z (any-append (same (clock e)) before [] n refl)) more later)
          by (Some at) edge one more this later next = (
            finds-one before at (cells_at home p at 0 p.cells) edge o.before h one.0 ready-h this,
            next (before ++ at) (edged p (cells_at home p at 0 p.cells) h) (edged-proper (cells_at home p at 0 p.cells) h proper) ready-after more later,
          )
            where
              ready-after : Ready (before ++ at) (edged p (cells_at home p at 0 p.cells) h)
              ready-after i q e s t z n = which (list_any (same (clock e)) at) refl
                where
                  which : (b : Bool) → list_any (same (clock e)) at ≡ b → HasPlace (edged p (cells_at home p at 0 p.cells) h) i
                  which true w = edged-gives (cells_at home p at 0 p.cells) h proper i q s t (sym (clock-at i q e s z at (cells_at home p at 0 p.cells) edge) ∙ w)
                  which false w = edged-kept (cells_at home p at 0 p.cells) h proper i q s t (ready-h i q e s t z (any-append (same (clock e)) before at n w))
