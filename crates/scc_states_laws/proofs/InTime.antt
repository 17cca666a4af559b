-- Each resume of a thread comes to a wait within its bound.
use Rattle.std.proofs.Common.{◌≡◌, ℕ, Bool, true, false, Option, Some, None, refl}
use Rattle.std.specs.Prelude.{slice_get, ◌&&◌}
use Rattle.scc_semantics.specs.Location.{Location}
use Rattle.scc_semantics.specs.Value.{Held}
use Rattle.scc_semantics.specs.Machine.{Frames, Outcome, Suspended}
use Rattle.scc_core_spec.specs.Program.{Program, Process}
use Rattle.scc_core_spec.specs.First.{when}
use Rattle.scc_core_spec.specs.Live.{alive}
use Rattle.scc_core_spec.specs.Rules.{loop_may_not_wait, end_reached}
use Rattle.scc_core_spec.specs.Source.{Home, source_of}
use Rattle.scc_blocks_spec.specs.Acting.{Acting}
use Rattle.scc_blocks_spec.specs.Comes.{Keeps}
use Rattle.scc_blocks_spec.specs.Effect.{Place}
use Rattle.scc_states_laws.specs.Alike.{acting_of, IsFitCode, TellsApart}
use Rattle.scc_core_spec.specs.Exits.{exits_within}
use Rattle.scc_states_laws.specs.Processes.{Reached, running_of, world_of}
use Rattle.scc_states_path_laws.specs.Tracks.{Tracks, MayEnd, frames_of}
use Rattle.scc_states_laws.specs.Turned.{StandsAt, LeftSo, IsPlace, ComesToWaits}
use Rattle.scc_states_laws.proofs.Any.{alike_any}
use Rattle.scc_states_path_laws.proofs.Exits.{never_ends}
use Rattle.scc_states_laws.proofs.Standing.{none_at, quiet_loops, stands}
use Rattle.scc_states_laws.proofs.Statics.{tests_hold}
use Rattle.scc_states_laws.proofs.Tracking.{thread_is_tracked}
use Rattle.scc_states_laws.proofs.Turned.{threads}
use Rattle.scc_states_laws.proofs.Unstuck.{turn_there}

not_when : {A : Type 0} (b c : Bool) (x : A) → b ≡ true → when (b && c) x ≡ None → c ≡ false
not_when true true x e h = absurd cc
not_when true false x e h = refl
not_when false c x e h = absurd cc

-- E510 is not refused
pub ends_nowhere : (p : Program) (i : ℕ) (q : Process) → end_reached p ≡ None → slice_get p.processes i ≡ Some q → q.is_thread ≡ true → (alive p.cells q.body).ends ≡ false
ends_nowhere p i q h at e = not_when q.is_thread (alive p.cells q.body).ends _ e (none_at _ p.processes i q h at)

module _ (home : Home) (constant : Location → Option ℕ) (p : Program) (i : ℕ) (q : Process) (signals : Location → ℕ) where
  from_left : (place : Option Place) (a : Acting) (o : Outcome) → LeftSo home constant p i q signals place a o → (MayEnd p.cells q.body → ⊥)
      → (at : Place) × (g : Frames) × (k : Held) × (o ≡ Suspended g k) × (frames_of (world_of home constant p i signals) q.body at ≡ Some g)
  from_left (Some at) a o l never = (at, l.0, l.1, l.2, l.3)
  from_left None a o l never = absurd (never l.2)

  is_place : (Is : Frames → Held → Type 0) → Tracks (world_of home constant p i signals) q.body Is → (place : Option Place) (f : Frames) → StandsAt home constant p i q signals place f → IsPlace p.cells q place
  is_place Is t None f s = tt
  is_place Is t (Some at) f s = t.is_wait at f s

  pub in_time : slice_get p.processes i ≡ Some q → Keeps (source_of home p constant) → TellsApart home p i q → IsFitCode q p.cells q.body → loop_may_not_wait p ≡ None → end_reached p ≡ None
      → q.is_thread ≡ true → exits_within 0 q.body ≡ true → ComesToWaits home constant p i q signals (Reached (source_of home p constant) i (running_of home p i q) signals)
  in_time at keeps apart fit loops ends thread exits reset place f h st is n le =
      let tracks = thread_is_tracked home constant p i (running_of home p i q) signals q.body keeps (stands home constant p i q at) (tests_hold home constant p i q signals apart q.body fit) (quiet_loops p i q loops at) in
      let a = acting_of home p signals h in
      let turn = turn_there q p.cells fit (quiet_loops p i q loops at) reset place a (is_place (Reached (source_of home p constant) i (running_of home p i q) signals) tracks place f st) in
      from_left (turn.0).place (turn.0).acting _ (threads home constant p i q signals at keeps apart fit loops reset place f a h turn.0 st is (alike_any home p signals h) turn.1 n le)
      (never_ends p.cells q.body exits (ends_nowhere p i q ends at thread))
