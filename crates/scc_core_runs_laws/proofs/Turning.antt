-- A resume of a resolved core's process, from frames that stand and proper words, is a turn of its registers.
use Rattle.std.proofs.Common.{◌≡◌, ℕ, true, false, Some, None, refl, subst}
use Rattle.std.specs.Prelude.{slice_get}
use Rattle.scc_semantics.specs.Location.{Location}
use Rattle.scc_semantics.specs.Body as machine
use Rattle.scc_semantics.specs.Design.{Design}
use Rattle.scc_semantics.specs.Machine.{Frames, Go, Mark, Outcome, Suspended, after}
use Rattle.scc_semantics.specs.Start.{IsProper}
use Rattle.scc_semantics.specs.Value.{Held}
use Rattle.scc_core_spec.specs.Constants.{constants_of}
use Rattle.scc_core_spec.specs.Code.{Code, Declared, Assigned, End, Put, Aim, If, Block, Loop, Exit, Wait}
use Rattle.scc_core_spec.specs.IsResolved.{IsResolved}
use Rattle.scc_core_spec.specs.Live.{live, alive}
use Rattle.scc_core_spec.specs.Program.{Program, Process}
use Rattle.scc_core_spec.specs.Rules.{loop_may_not_wait}
use Rattle.scc_core_spec.specs.Segments.{opens}
use Rattle.scc_core_spec.specs.Source.{Home, source_of, body_of}
use Rattle.scc_blocks_spec.specs.Comes.{next_waits}
use Rattle.scc_blocks_spec.specs.Passed.{IsHome}
use Rattle.scc_blocks_spec.specs.Tied.{own_names}
use Rattle.scc_states_path_laws.specs.Moved.{World}
use Rattle.scc_states_path_laws.specs.Tracks.{Tracks}
use Rattle.scc_states_path_laws.specs.Within.{Along, Tests}
use Rattle.scc_states_path_laws.proofs.Tracked.{tracked}
use Rattle.scc_states_laws.specs.Alike.{TellsApart}
use Rattle.scc_states_laws.specs.Processes.{HoldsFixed, world_of}
use Rattle.scc_states_laws.specs.Turned.{ThreadTurns, MethodTurns}
use Rattle.scc_states_laws.proofs.Standing.{quiet_loops}
use Rattle.scc_states_laws.proofs.Statics.{tests_hold}
use Rattle.scc_states_laws.proofs.Turned.{thread_turns, method_turns}
use Rattle.scc_core_resolved_laws.proofs.Apart.{tells-apart}
use Rattle.scc_core_resolved_laws.proofs.Assigned.{Proper, holds-fixed}
use Rattle.scc_core_resolved_laws.proofs.Parts.{fits}
use Rattle.scc_core_resolved_laws.proofs.Standing.{Stands, Fine, shape, after-fine}

module _ (home : Home) (is : IsHome home) (p : Program) (r : IsResolved p) (i : ℕ) (q : Process) (g : slice_get p.processes i ≡ Some q) (loops : loop_may_not_wait p ≡ None) (signals : Location → ℕ)
    (shown : IsProper (source_of home p (constants_of home p)) signals) where
  abbrev D : Design
  D = source_of home p (constants_of home p)

  abbrev W : World
  W = world_of home (constants_of home p) p i signals

  abbrev S : Frames → Type 0
  S = Stands home (constants_of home p) p i q

  -- frames stand, and words and requests are proper
  abbrev pub Is : Frames → Held → Type 0
  Is f h = S f × Proper D h

  apart : TellsApart home p i q
  apart = tells-apart home is p r i q g

  -- an end of a list leads on
  over : (c : Code) (k : Frames) → body_of home p.cells i c ≡ machine.End → ((alive p.cells c).ends ≡ true → S k) → S k
  over End k e s = s refl
  over (Put o l pk e' c) k e s = absurd cc
  over (Aim o (Declared n) t c) k e s = absurd cc
  over (Aim o (Assigned l) t c) k e s = absurd cc
  over (If o t a b c) k e s = absurd cc
  over (Block o b c) k e s = absurd cc
  over (Loop o n b c) k e s = absurd cc
  over (Exit o n c) k e s = absurd cc
  over (Wait o l n c) k e s = absurd cc

  ends : (mark : Mark) (k : Frames) (h : Held) → Is (Go mark (own_names i) machine.End k) h → Is k h
  ends mark k h s = let v = shape home (constants_of home p) p i q (Go mark (own_names i) machine.End k) s.0 in (over v.0 k v.2 v.5, s.1)

  fine : (f' : Frames) (h' : Held) (o : Outcome) → Fine home (constants_of home p) p i q o → o ≡ Suspended f' h' → Is f' h'
  unfolding Fine
  fine f' h' o t e = subst (Fine home (constants_of home p) p i q) e t

  moves : (f f' : Frames) (h h' : Held) → next_waits f ≡ false → after W.places W.functions W.signals 1 f h ≡ Suspended f' h' → Is f h → Is f' h'
  moves f f' h h' free e s = fine f' h' _ (after-fine home (constants_of home p) p i q signals apart r shown f h s.0 s.1) e

  abbrev along : Along W
  along = record { Is = Is; Holds = HoldsFixed D; holds = λ f h s. holds-fixed D h s.1; ends = ends; moves = moves }

  tests : Tests W (HoldsFixed D) q.body
  tests = tests_hold home (constants_of home p) p i q signals apart q.body (fits p i q r g)

  pub tracks : Tracks W q.body Is
  tracks = tracked W along q.body tests (quiet_loops p i q loops g)

  pub thread-turns : ThreadTurns home (constants_of home p) p i q signals Is
  thread-turns = thread_turns home (constants_of home p) p i q signals apart (fits p i q r g) Is tracks

  pub method-turns : opens 0 (live p.cells q.body) ≡ false → MethodTurns home (constants_of home p) p i q signals Is
  method-turns alone = method_turns home (constants_of home p) p i q signals apart (fits p i q r g) along tests (quiet_loops p i q loops g) alone
