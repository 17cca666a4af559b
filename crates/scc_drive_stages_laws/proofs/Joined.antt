-- The module of a core shows what the core's design shows.
use Rattle.std.proofs.Common.{◌≡◌, ℕ, zero, suc, ◌+◌, ◌≤◌, ◌<◌, ◌^◌, arith, Bool, true, false, List, [], ◌∷◌, Some, None, sym, ap, ◌∙◌, subst, slice_get}
use Rattle.std.specs.Prelude.{map, option_map, unwrap_or}
use Rattle.scc_bits_kinds.specs.Kinds.{width_of}
use Rattle.scc_semantics.specs.Location.{Location}
use Rattle.scc_semantics.specs.Process.{State}
use Rattle.scc_semantics.specs.Run.{Step, Shown, Shows, FitsStep, FitSteps}
use Rattle.scc_semantics.specs.Start.{IsStart, FindsResets}
use Rattle.scc_semantics.specs.Statement.{Seen, AllSame, AreAlike}
use Rattle.scc_svtree.specs.declared.module.SvModule.{SvModule}
use Rattle.scc_svtree.specs.Steps.{StepInput, Steps}
use Rattle.scc_svtree.specs.Steps as steps
use Rattle.scc_blocks_spec.specs.Emitted.{register, shot, seen_of, step_of, AreSeen, Runs, ModuleShows}
use Rattle.scc_core_spec.specs.Program.{Program, Process, Cell, is_root, is_held}
use Rattle.scc_core_spec.specs.Rules.{first_rule}
use Rattle.scc_core_spec.specs.Source.{Home, cell_location}
use Rattle.scc_blocks_spec.specs.Tied.{Registers, MirrorsRegisters}
use Rattle.scc_blocks_run_laws.specs.Blocks.{IsProper}
use Rattle.scc_blocks_run_laws.specs.Follows.{IsModuleOf, SameTurn, AllSameTurns, registers_shown}
use Rattle.scc_blocks_laws.proofs.Follow.{steps-follow, steps-exist}
use Rattle.scc_blocks_laws.proofs.Shots.{steps-show}
use Rattle.scc_core_spec.specs.IsResolved.{IsResolved}
use Rattle.scc_blocks_spec.specs.Passed.{IsHome}
use Rattle.scc_states_path_laws.specs.Tracks.{steps_of}
use Rattle.scc_core_effect_laws.specs.Follows.{IsSoundCore, design_of}
use Rattle.scc_core_resolved_laws.proofs.Owned.{sound-core}
use Rattle.scc_core_resolved_laws.proofs.Starting.{start}
use Rattle.scc_core_laws.specs.Given.{regs_of, regs_step_of}
use Rattle.scc_core_laws.specs.Stepped.{RunFollows, SeesAll, regs_shown, outputs_from}
use Rattle.scc_core_laws.proofs.Resolved.{run-from}
use Rattle.scc_core_laws.proofs.Starting.{start-tied}
use Rattle.scc_core_effect_laws.proofs.Names.{true-false}
use Rattle.scc_core_effect_laws.proofs.Unsure.{sort-of}
use Rattle.scc_drive_stages_laws.specs.Joined.{IsJoined, turn_of}
use Rattle.scc_drive_stages_laws.proofs.Alike.{alike}
use Rattle.scc_drive_stages_laws.proofs.Wired.{steps-alike}
use Rattle.scc_drive_stages_laws.proofs.Bounds.{one-run}
use Rattle.scc_drive_stages_laws.proofs.Shots.{all-same}
use Rattle.scc_drive_stages_laws.proofs.Resets.{finds}

-- the steps that suffice for each of the bodies
most_of : List Process → ℕ
most_of [] = 0
most_of (q ∷ qs) = steps_of q.body + most_of qs

within-most : (qs : List Process) (i : ℕ) (q : Process) → slice_get qs i ≡ Some q → steps_of q.body ≤ most_of qs
unfolding most_of
within-most [] i q g = absurd (cc)
within-most (o ∷ qs) zero q g = let one : o ≡ q = cc in subst (λ z. steps_of z.body ≤ steps_of o.body + most_of qs) one (omega arith)
within-most (o ∷ qs) (suc i) q g = let e = within-most qs i q g in omega (arith, e)

module _ (home : Home) (p : Program) (text : Location → List ℕ) (at : Location → ℕ) (many : Bool) (r : Registers) (m : SvModule) (mo : IsModuleOf many p r m) (is : IsHome home) (core : IsResolved p)
    (unbroken : first_rule p ≡ None) (joined : IsJoined home p text at r m mo.built.clock_variable) where
  resolved : IsSoundCore home p
  resolved = sound-core home is p core

  -- one bound for all processes
  abbrev bound : ℕ
  bound = most_of p.processes

  follows : (s : State) → IsStart (design_of home p) s → (xs : List Step) → FitSteps (design_of home p) xs → RunFollows home p (λ i. bound) s (regs_of home p s) xs (map (regs_step_of home p) xs)
  follows s start xs fit = run-from home is p core unbroken (λ i. bound) (λ i q g. within-most p.processes i q g) s start xs fit

  -- ---- the module goes through all steps
  step-seen : (i : StepInput) (x z : ℕ → ℕ) (o : List (ℕ → ℕ)) → steps.Step m i x z o → (s : Seen) × (seen_of text m o ≡ Some s)
  step-seen i x z o h = by i.has_edge h.later h.second h.observed
    where
      by : (b : Bool) (later : List (ℕ → ℕ)) → steps.EdgePart b m i.clocks h.settled z later → o ≡ h.settled ∷ later → (s : Seen) × (seen_of text m o ≡ Some s)
      by false later e k = (record { before = shot text m h.settled; after = None }, ap (seen_of text m) (k ∙ ap (λ l. h.settled ∷ l) e.1))
      by true later e k = (record { before = shot text m h.settled; after = Some (shot text m z) }, ap (seen_of text m) (k ∙ ap (λ l. h.settled ∷ l) e.1))

  all-seen : (is : List StepInput) (x : ℕ → ℕ) (xss : List (List (ℕ → ℕ))) → Steps m x is xss → (seen : List Seen) × AreSeen text m xss seen
  all-seen [] x [] h = ([], tt)
  all-seen [] x (o ∷ os) h = absurd h
  all-seen (i ∷ is) x [] h = absurd h
  all-seen (i ∷ is) x (o ∷ os) h = let a = step-seen i x h.0 o h.1 in let more = all-seen is h.0 os h.2 in (a.0 ∷ more.0, (a.1, more.1))

  -- ---- starts
  word : (s : State) (c : ℕ) (x : Cell) → slice_get p.cells c ≡ Some x → (regs_of home p s).word c ≡ s.store.words (cell_location home p x)
  word s c x e = ap (λ o. unwrap_or (option_map (λ x. s.store.words (cell_location home p x)) o) 0) e

  start-proper : (s : State) → IsStart (design_of home p) s → IsProper p r (regs_of home p s)
  start-proper s start = let t = start-tied home p resolved s start in record {
    fits = λ c v e. let h = joined.placed.held c v e in subst (λ n. (regs_of home p s).word c < 2 ^ n) (sym (ap (λ o. unwrap_or (option_map (λ x. width_of x.kind) o) 0) h.1)) (t.fits c h.0 h.1 h.2);
    held = λ c h. let x = sort-of is_held p.cells c h in subst (λ n. (regs_of home p s).word c < 2 ^ n) (sym (ap (λ o. unwrap_or (option_map (λ x. width_of x.kind) o) 0) x.1)) (t.fits c x.0 x.1 x.2);
    constants = λ c w h e. let x = sort-of is_root p.cells c h in word s c x.0 x.1 ∙ t.constants c x.0 w x.1 e;
    places = λ i q place e h. absurd (cc);
  }

  start-mirrors : (s : State) (x : ℕ → ℕ) → AreAlike (ℕ → ℕ) (register text m) (Runs text (design_of home p) m) s x → MirrorsRegisters p r x (regs_of home p s)
  start-mirrors s x alike = record {
    words = λ c v e h. let d = joined.placed.held c v e in
        sym (alike (cell_location home p d.0) (x v) (ap (option_map x) (joined.placed.registers c v d.0 e h d.1))) ∙ sym (word s c d.0 d.1);
    states = λ i q place e t h. absurd (cc);
    counters = λ i q place e t h. absurd (cc);
  }

  wired-steps : (x : Step) → FitsStep (design_of home p) x → SameTurn p r m mo.built.clock_variable (turn_of (regs_step_of home p x)) (step_of text (design_of home p) m x)
  wired-steps x fit = steps-alike home p resolved text r m mo.built.clock_variable joined.wired joined.placed.held x fit

  same-turns : (xs : List Step) → FitSteps (design_of home p) xs → AllSameTurns p r m mo.built.clock_variable (map turn_of (map (regs_step_of home p) xs)) (map (step_of text (design_of home p) m) xs)
  same-turns [] f = tt
  same-turns (x ∷ xs) f = (wired-steps x f.0, same-turns xs f.1)

  pub same : (s : State) (x : ℕ → ℕ) → IsStart (design_of home p) s → AreAlike (ℕ → ℕ) (register text m) (Runs text (design_of home p) m) s x → (xs : List Step) → FitSteps (design_of home p) xs
      → (os : List Shown) → Shows (design_of home p) s xs os → FindsResets (design_of home p) [] xs os → (seen : List Seen) → Runs text (design_of home p) m x xs seen → AllSame os seen
  same s x start alike xs fit os shows found seen runs =
      let f = follows s start xs fit in
      let resets = finds many p r m mo home resolved mo.built.clock_variable text wired-steps in
      let one : f.shows ≡ os = one-run (design_of home p) s xs f.shows os (bound, f.goes) shows in
      let seen-all : SeesAll home p os (regs_shown p (map (regs_step_of home p) xs) (regs_of home p s)) = subst (λ os. SeesAll home p os (regs_shown p (map (regs_step_of home p) xs) (regs_of home p s))) one f.sees in
      let turns = map turn_of (map (regs_step_of home p) xs) in
      let shown = steps-show p r text at m (outputs_from 0 p.cells) joined.placed.named runs.0 (registers_shown p turns (regs_of home p s)) seen
      (steps-follow many p r m mo turns (map (step_of text (design_of home p) m) xs) x (regs_of home p s) runs.0 (same-turns xs fit) (start-proper s start) (start-mirrors s x alike) (resets xs [] os (regs_of home p s) fit (start-proper s start) (λ i q e h t k n. true-false (sym n)) seen-all found) runs.1) runs.2 in
      all-same home p text at r m joined.placed (map (regs_step_of home p) xs) (regs_of home p s) os seen runs.0 seen-all shown runs.2

  pub module-shows : ModuleShows text (design_of home p) m
  module-shows = record {
    source_shows = λ s start xs fit. let f = follows s start xs fit in (f.shows, (bound, f.goes));
    text_runs = λ x xs fit. let a = steps-exist many p r m mo (map (step_of text (design_of home p) m) xs) x in let b = all-seen (map (step_of text (design_of home p) m) xs) x a.0 a.1 in (b.0, (a.0, a.1, b.1));
    same = same;
    starts = start home is p core;
    alike = λ s start. alike home p text at r m joined.placed s;
  }
