-- What a resolved core shows whose rules aren't broken: its runs keep the bounds of its bodies.
use Rattle.std.proofs.Common.{◌≡◌, ◌≤◌, ℕ, true, List, None, sym, ap, subst, arith}
use Rattle.std.specs.Prelude.{map, length, filter, option_map, unwrap_or}
use Rattle.scc_semantics.specs.Process.{State}
use Rattle.scc_semantics.specs.Run.{Step, FitSteps}
use Rattle.scc_semantics.specs.Start.{IsStart}
use Rattle.scc_core_spec.specs.IsResolved.{IsResolved}
use Rattle.scc_core_spec.specs.Program.{Program, is_combinational, is_root}
use Rattle.scc_core_spec.specs.Rules.{first_rule}
use Rattle.scc_core_spec.specs.Source.{Home}
use Rattle.scc_core_spec.specs.Uses.{has_sort}
use Rattle.scc_blocks_spec.specs.Passed.{IsHome}
use Rattle.scc_blocks_spec.specs.Tied.{Tied}
use Rattle.scc_blocks_spec.specs.Turns.{Regs, rounds, settled}
use Rattle.scc_core_effect_laws.specs.Follows.{Does, IsSoundCore, Obeys, Tracks, design_of}
use Rattle.scc_core_effect_laws.specs.Ordering.{Answers, IsOrdered, IsSettled, SameInputs}
use Rattle.scc_core_effect_laws.proofs.Told.{obeys}
use Rattle.scc_core_resolved_laws.proofs.Owned.{sound-core}
use Rattle.scc_core_runs_laws.proofs.Unbroken.{unbroken-does, unbroken-segments}
use Rattle.scc_states_path_laws.specs.Tracks.{steps_of}
use Rattle.scc_states_laws.specs.InTime.{CoreInTime, bounds_of}
use Rattle.scc_core_laws.specs.Bounded.{KeepBounds}
use Rattle.scc_core_laws.specs.Given.{regs_of, regs_step_of}
use Rattle.scc_core_laws.specs.Stepped.{RunFollows}
use Rattle.scc_core_laws.proofs.Asking.{tied-answers}
use Rattle.scc_core_laws.proofs.Counting.{tracks}
use Rattle.scc_core_laws.proofs.OnlyOne.{only-one}
use Rattle.scc_core_laws.proofs.Ordered.{settled-at, settled-is}
use Rattle.scc_core_laws.proofs.Orders.{has-order}
use Rattle.scc_core_laws.proofs.Rules.{is-ordered}
use Rattle.scc_core_laws.proofs.Settling.{settle-comes}
use Rattle.scc_core_laws.proofs.Starting.{start-tied, steps-of}
use Rattle.scc_core_laws.proofs.Stepping.{run-follows}

-- the bounds of the bodies
pub own-bounds : (p : Program) → KeepBounds p (bounds_of p)
own-bounds p i q g = subst (λ n. steps_of q.body ≤ n) (sym (ap (λ o. unwrap_or (option_map (λ q. steps_of q.body) o) 0) g)) (omega arith)

module _ (home : Home) (is : IsHome home) (p : Program) (r : IsResolved p) (none : first_rule p ≡ None) where
  pub core : IsSoundCore home p
  core = sound-core home is p r

  pub rules : Obeys p
  rules = obeys p none

  module _ (bounds : ℕ → ℕ) (keeps : KeepBounds p bounds) where
    pub does : Does home p bounds
    does = unbroken-does home is p r none bounds keeps

    pub threads : Tracks home p bounds
    threads = tracks home p bounds (unbroken-segments home is p r none bounds keeps)

    pub run-from : (s : State) → IsStart (design_of home p) s → (xs : List Step) → FitSteps (design_of home p) xs → RunFollows home p bounds s (regs_of home p s) xs (map (regs_step_of home p) xs)
    run-from s start xs fit = run-follows home p core rules bounds does threads xs (map (regs_step_of home p) xs) s (regs_of home p s) (start-tied home p core s start) (steps-of home p core xs fit)

  pub in-time : CoreInTime home p
  in-time s start xs fit = let f = run-from (bounds_of p) (own-bounds p) s start xs fit in (f.shows, f.goes)

  pub order : List ℕ
  order = (has-order p none r).0

  pub ordered : IsOrdered p order
  unfolding order
  ordered = is-ordered p none home core order (has-order p none r).1

  abbrev B : ℕ → ℕ
  B = bounds_of p

  pub settled-there : (s : State) (g : Regs) → Tied home p s g → IsSettled p (settled p g) × Answers p (settled p g)
  settled-there s g tied =
      let d = does B (own-bounds p) in
      let t = threads B (own-bounds p) in
      let to = settle-comes home p core rules B d t s g tied in
      (settled-is home p core rules B d t order ordered s g tied, tied-answers home p core rules B d t order ordered to.to (settled p g) to.tied)

  pub settled-soon : (s : State) (g : Regs) → Tied home p s g → IsSettled p (rounds p (length (filter is_combinational p.processes)) g)
  settled-soon s g tied = settled-at home p core rules B (does B (own-bounds p)) (threads B (own-bounds p)) order ordered s g tied (length (filter is_combinational p.processes)) ordered.short

  pub settled-once : (g h : Regs) → Answers p g → Answers p h → IsSettled p g → IsSettled p h → SameInputs p g h → (c : ℕ) → has_sort is_root p.cells c ≡ true → g.word c ≡ h.word c
  settled-once g h known known' settled settled' inputs =
      only-one home p core rules B (does B (own-bounds p)) (threads B (own-bounds p)) order ordered g h known known' settled settled' inputs
