-- Where no rule is broken, no method waits, no loop comes round without a wait, and no thread ends; so runs are effects and segments.
use Rattle.std.proofs.Common.{◌≡◌, ◌≤◌, ℕ, zero, suc, ◌+◌, ◌*◌, List, [], ◌∷◌, Option, Some, None, refl, subst, slice_get, arith}
use Rattle.scc_core_spec.specs.Code.{size}
use Rattle.scc_core_spec.specs.First.{or_else, first_some}
use Rattle.scc_core_spec.specs.IsResolved.{IsResolved}
use Rattle.scc_core_spec.specs.Program.{Program, Process}
use Rattle.scc_base.specs.declared.refusal.Refusal.{Refusal}
use Rattle.scc_core_spec.specs.Clashes.{two_writers, shared_variable}
use Rattle.scc_core_spec.specs.Rules.{first_rule, clock_as_data, missing_sensitivity, latch, comb_loop, comb_state, wait_in_method, loop_may_not_wait, end_reached, signal_index}
use Rattle.scc_core_spec.specs.Sizes.{loops_deep}
use Rattle.scc_core_spec.specs.Source.{Home}
use Rattle.scc_blocks_spec.specs.Passed.{IsHome}
use Rattle.scc_states_path_laws.specs.Tracks.{steps_of}
use Rattle.scc_states_laws.proofs.Values.{some_same}
use Rattle.scc_core_effect_laws.specs.Follows.{Does, RunsSegments}
use Rattle.scc_core_runs_laws.proofs.Done.{does, segments}

none-two : {A : Type 0} (o q : Option A) → or_else o q ≡ None → (o ≡ None) × (q ≡ None)
none-two None q e = (refl, e)
none-two (Some x) q e = absurd cc

none-each : {A : Type 0} (os : List (Option A)) (n : ℕ) (o : Option A) → first_some os ≡ None → slice_get os n ≡ Some o → o ≡ None
none-each [] n o e g = absurd cc
none-each (q ∷ os) zero o e g = subst (λ z. z ≡ None) (some_same g) (none-two q (first_some os) e).0
none-each (q ∷ os) (suc n) o e g = none-each os n o (none-two q (first_some os) e).1 g

abbrev rules : Program → List (Option Refusal)
rules p = clock_as_data p ∷ two_writers p ∷ shared_variable p ∷ missing_sensitivity p ∷ latch p ∷ comb_loop p ∷ comb_state p ∷ wait_in_method p ∷ loop_may_not_wait p ∷ end_reached p ∷ signal_index p ∷ []

module _ (p : Program) (none : first_rule p ≡ None) where
  pub no-waits : wait_in_method p ≡ None
  no-waits = none-each (rules p) 7 (wait_in_method p) none refl

  pub no-loops : loop_may_not_wait p ≡ None
  no-loops = none-each (rules p) 8 (loop_may_not_wait p) none refl

  pub no-ends : end_reached p ≡ None
  no-ends = none-each (rules p) 9 (end_reached p) none refl

module _ (home : Home) (is : IsHome home) (p : Program) (r : IsResolved p) (none : first_rule p ≡ None) (bounds : ℕ → ℕ) (keeps : (i : ℕ) (q : Process) → slice_get p.processes i ≡ Some q → steps_of q.body ≤ bounds i) where
  shorter : (d s n : ℕ) → (d + 1) * s ≤ n → s ≤ n
  shorter d s n le = omega arith

  pub unbroken-does : Does home p bounds
  unbroken-does = does home is p r (no-loops p none) (no-waits p none) bounds (λ i q g. shorter (loops_deep q.body) (size q.body) (bounds i) (keeps i q g))

  pub unbroken-segments : RunsSegments home p bounds
  unbroken-segments = segments home is p r (no-loops p none) (no-ends p none) bounds keeps
