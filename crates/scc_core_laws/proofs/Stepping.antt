-- The design follows the registers, step by step.
use Rattle.std.proofs.Common.{ℕ, List, [], ◌∷◌, Option, Some, None, refl, ap, ◌∙◌}
use Rattle.scc_semantics.specs.Location.{Location}
use Rattle.scc_semantics.specs.Process.{State, Well, and_then}
use Rattle.scc_semantics.specs.Run.{Step, observed, begun, finished, shown}
use Rattle.scc_core_spec.specs.Program.{Program}
use Rattle.scc_core_spec.specs.Source.{Home}
use Rattle.scc_blocks_spec.specs.Turns.{Regs}
use Rattle.scc_blocks_spec.specs.Turns as turns
use Rattle.scc_blocks_spec.specs.Tied.{Tied}
use Rattle.scc_core_effect_laws.specs.Follows.{IsSoundCore, Obeys, Does, Tracks, design_of}
use Rattle.scc_core_laws.specs.Stepped.{IsStepOf, RegsStep, SameEdge, regs_step, AreStepsOf, StepFollows, RunFollows}
use Rattle.scc_core_laws.proofs.Seeing.{sees}
use Rattle.scc_core_laws.proofs.Settling.{Comes, begun-comes, edged-comes}

module _ (home : Home) (p : Program) (resolved : IsSoundCore home p) (obeys : Obeys p) (bounds : ℕ → ℕ) (does : Does home p bounds) (tracks : Tracks home p bounds) where
  pub source-follows : (s : State) (g : Regs) (x : Step) (y : RegsStep) → Tied home p s g → IsStepOf home p x y → StepFollows home p bounds s g x y
  source-follows s g x y tied ok = by x.edge y.edge ok.edge (begun-comes home p resolved obeys bounds does tracks x y ok s g tied)
    where
      by : (o : Option (List Location)) (e : Option (List ℕ)) → SameEdge home p o e → Comes home p resolved obeys bounds does tracks (begun bounds (design_of home p) x.inputs s) (turns.begun p y.given g)
          → StepFollows home p bounds s g (record { inputs = x.inputs; edge = o }) (record { given = y.given; edge = e })
      by None None same c = record {
        to = c.to;
        shows = record { before = observed (design_of home p) c.to; after = None };
        goes = ap (λ o. and_then o (finished bounds (design_of home p) None)) c.goes;
        sees = (sees home p resolved c.to (turns.begun p y.given g) c.tied, tt);
        tied = c.tied;
      }
      by (Some at) (Some cells) same c =
          let d = edged-comes home p resolved obeys bounds does tracks at cells same c.to (turns.begun p y.given g) c.tied in
          record {
            to = d.to;
            shows = record { before = observed (design_of home p) c.to; after = Some (observed (design_of home p) d.to) };
            goes =
                ap (λ o. and_then o (finished bounds (design_of home p) (Some at))) c.goes
                ∙ ap (λ o. and_then o (λ t. Well (t, record { before = observed (design_of home p) c.to; after = Some (observed (design_of home p) t) }))) d.goes;
            sees = (sees home p resolved c.to (turns.begun p y.given g) c.tied, sees home p resolved d.to (turns.edged p cells (turns.begun p y.given g)) d.tied);
            tied = d.tied;
          }
      by None (Some cells) same c = absurd same
      by (Some at) None same c = absurd same

  pub run-follows : (xs : List Step) (ys : List RegsStep) (s : State) (g : Regs) → Tied home p s g → AreStepsOf home p xs ys → RunFollows home p bounds s g xs ys
  run-follows [] [] s g tied ok = record { shows = []; goes = refl; sees = tt }
  run-follows (x ∷ xs) (y ∷ ys) s g tied ok =
      let f = source-follows s g x y tied ok.0 in
      let more = run-follows xs ys f.to (regs_step p y g).0 f.tied ok.1 in
      record {
        shows = f.shows ∷ more.shows;
        goes =
            ap (λ o. and_then o (λ r. and_then (shown bounds (design_of home p) xs r.0) (λ more. Well (r.1 ∷ more)))) f.goes
            ∙ ap (λ o. and_then o (λ more. Well (f.shows ∷ more))) more.goes;
        sees = (f.sees, more.sees);
      }
  run-follows [] (y ∷ ys) s g tied ok = absurd ok
  run-follows (x ∷ xs) [] s g tied ok = absurd ok
