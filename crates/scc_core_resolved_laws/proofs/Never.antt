-- A resolved core is never stuck.
use Rattle.std.proofs.Common.{◌≡◌, ℕ, Bool, true, false, Option, Some, None, refl, ap, ◌∙◌}
use Rattle.std.specs.Prelude.{if◌then◌else◌}
use Rattle.scc_semantics.specs.Location.{Location}
use Rattle.scc_core_spec.specs.Program.{Program}
use Rattle.scc_core_spec.specs.Constants.{constants_of}
use Rattle.scc_core_spec.specs.Live.{live}
use Rattle.scc_core_spec.specs.Rules.{loop_may_not_wait, wait_in_method}
use Rattle.scc_core_spec.specs.Source.{Home, source_of}
use Rattle.scc_blocks_spec.specs.Effect.{Place, effect}
use Rattle.scc_blocks_spec.specs.Passed.{IsHome}
use Rattle.scc_blocks_spec.specs.Turns.{Left, turn, thread_turn, method_left, reset_at, found}
use Rattle.scc_states_laws.specs.InTime.{NeverStuck}
use Rattle.scc_states_laws.specs.Processes.{running_of, world_of, Reached}
use Rattle.scc_states_laws.specs.Turned.{IsPlace}
use Rattle.scc_states_path_laws.specs.Tracks.{Tracks}
use Rattle.scc_states_laws.proofs.Closed.{alone}
use Rattle.scc_states_laws.proofs.Standing.{quiet_loops, stands}
use Rattle.scc_states_laws.proofs.Statics.{tests_hold}
use Rattle.scc_states_laws.proofs.Tracking.{thread_is_tracked}
use Rattle.scc_states_laws.proofs.Unstuck.{turn_there, method_there}
use Rattle.scc_core_spec.specs.IsResolved.{IsResolved}
use Rattle.scc_core_resolved_laws.proofs.Apart.{tells-apart}
use Rattle.scc_core_resolved_laws.proofs.Inputs.{all-kept}
use Rattle.scc_core_resolved_laws.proofs.Parts.{fits, exits}

module _ (home : Home) (is : IsHome home) (p : Program) (r : IsResolved p) (loops : loop_may_not_wait p ≡ None) (waits : wait_in_method p ≡ None) where
  pub never : NeverStuck home p
  never s g tied i q at = by q.is_thread refl
    where
      nowhere : Location → ℕ
      nowhere l = 0

      tracks : Tracks (world_of home (constants_of home p) p i nowhere) q.body (Reached (source_of home p (constants_of home p)) i (running_of home p i q) nowhere)
      tracks = thread_is_tracked home (constants_of home p) p i (running_of home p i q) nowhere q.body (all-kept home is p r) (stands home (constants_of home p) p i q at)
          (tests_hold home (constants_of home p) p i q nowhere (tells-apart home is p r i q at) q.body (fits p i q r at)) (quiet_loops p i q loops at)

      placed : q.is_thread ≡ true → (o : Option Place) → g.place i ≡ o → IsPlace p.cells q o
      placed t None e = tt
      placed t (Some a) e = tracks.is_wait a (s.frames i) (tied.places i q a at t e)

      by : (b : Bool) → q.is_thread ≡ b → (left : Left) × (turn p i q g ≡ Some left)
      by true e =
          let t = turn_there q p.cells (fits p i q r at) (quiet_loops p i q loops at) (reset_at g.word q.reset) (g.place i) (found p i q g) (placed e (g.place i) refl) in
          (t.0, ap (λ b. if b then thread_turn p.cells q (reset_at g.word q.reset) (g.place i) (found p i q g) else method_left (effect p.cells (live p.cells q.body) (found p i q g))) e ∙ t.1)
      by false e =
          let t = method_there q p.cells (fits p i q r at) (quiet_loops p i q loops at) (found p i q g) (alone p i q waits at e (exits p i q r at)) in
          (t.0, ap (λ b. if b then thread_turn p.cells q (reset_at g.word q.reset) (g.place i) (found p i q g) else method_left (effect p.cells (live p.cells q.body) (found p i q g))) e ∙ t.1)
