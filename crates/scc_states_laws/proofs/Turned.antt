-- A turn of the registers is a resume of the machine.
use Rattle.std.proofs.Common.{◌≡◌, ℕ, zero, suc, ◌+◌, ◌≤◌, ◌<◌, true, false, ◌||◌, [], Option, Some, None, refl, sym, ap, subst, ◌∙◌, arith}
use Rattle.std.specs.Prelude.{slice_get, not, nat_lt}
use Rattle.scc_semantics.specs.Location.{Location}
use Rattle.scc_semantics.specs.Value.{Held}
use Rattle.scc_semantics.specs.Machine.{Frames, Stop, Inner, Outcome, Suspended, Ended, run}
use Rattle.scc_core_spec.specs.Program.{Program, Process}
use Rattle.scc_core_spec.specs.Code.{Code, End, Put, Aim, If, Block, Loop, Exit, Wait, waits_in, numbered}
use Rattle.scc_core_spec.specs.Live.{live}
use Rattle.scc_core_spec.specs.Flow.{idle_loops}
use Rattle.scc_core_spec.specs.Segments.{Segment, opens, all_segments}
use Rattle.scc_core_spec.specs.Sizes.{live_body, states}
use Rattle.scc_core_spec.specs.Source.{Home, source_of}
use Rattle.scc_semantics.specs.Design as running
use Rattle.scc_blocks_spec.specs.Comes.{Keeps}
use Rattle.scc_states_laws.specs.Processes.{Reached, running_of}
use Rattle.scc_core_spec.specs.Rules.{loop_may_not_wait}
use Rattle.scc_states_laws.proofs.Standing.{quiet_loops, stands}
use Rattle.scc_states_laws.proofs.Statics.{tests_hold}
use Rattle.scc_states_laws.proofs.Tracking.{along, thread_is_tracked}
use Rattle.scc_blocks_spec.specs.Acting.{Acting}
use Rattle.scc_blocks_spec.specs.Effect as effect
use Rattle.scc_blocks_spec.specs.Effect.{Place, Effect, Ran, effect, run_segment}
use Rattle.scc_blocks_spec.specs.Turns.{Left, left_by, method_left, behind_wait, ran_segment, segment_at}
use Rattle.scc_states_path_laws.specs.Moved as moved
use Rattle.scc_states_path_laws.specs.Moved.{World, Done, Halted, effect_on, run_on, found_or_stop}
use Rattle.scc_states_path_laws.specs.Within.{Within, Along, Tests}
use Rattle.scc_states_path_laws.specs.Tracks.{Tracks, steps_of, frames_of, first_of, segment_numbered, segment_or, outcome_of, Stands}
use Rattle.scc_states_laws.specs.Alike.{Alike, TellsApart, IsFitCode}
use Rattle.scc_states_laws.specs.Same.{SameDone, SameRan}
use Rattle.scc_states_laws.specs.Turned.{w, LeftSo, ThreadTurns, MethodTurns}
use Rattle.scc_states_path_laws.proofs.Codes.{must_wait, or_parts}
use Rattle.scc_states_path_laws.proofs.Does.{does}
use Rattle.scc_states_laws.proofs.Values.{some_same}
use Rattle.scc_states_laws.proofs.Acts.{acts_alike, runs_alike}
use Rattle.scc_states_laws.proofs.Fits.{fit_all, fit_at, fit_alive}

-- code without waits has none to number
pub quiet_same : (c : Code) (d n : ℕ) → opens d c ≡ false → numbered n c ≡ c
quiet_same End d n o = refl
quiet_same (Put p l k e r) d n o = ap (Put p l k e) (quiet_same r d n o)
quiet_same (Aim p to t r) d n o = ap (Aim p to t) (quiet_same r d n o)
quiet_same (If p t a b r) d n o =
    let oa = or_parts (opens d a) (opens d b || opens d r) o in
    let ob = or_parts (opens d b) (opens d r) oa.1 in
    λ i. If p t (quiet_same a d n oa.0 i) (quiet_same b d (n + waits_in a) ob.0 i) (quiet_same r d (n + (waits_in a + waits_in b)) ob.1 i)
quiet_same (Block p b r) d n o =
    let ob = or_parts (opens (suc d) b) (opens d r) o in
    λ i. Block p (quiet_same b (suc d) n ob.0 i) (quiet_same r d (n + waits_in b) ob.1 i)
quiet_same (Loop p c b r) d n o =
    let ob = or_parts (opens d b) (opens d r) o in
    λ i. Loop p c (quiet_same b d n ob.0 i) (quiet_same r d (n + waits_in b) ob.1 i)
quiet_same (Exit p e r) d n o = ap (Exit p e) (quiet_same r d n (or_parts (not (nat_lt e d)) (opens d r) o).1)
quiet_same (Wait p l c r) d n o = absurd cc

module _ (home : Home) (constant : Location → Option ℕ) (p : Program) (i : ℕ) (q : Process) (signals : Location → ℕ) (apart : TellsApart home p i q) (fit : IsFitCode q p.cells q.body) where
  abbrev W : World
  W = w home constant p i q signals

  abbrev C : Code
  C = q.body

  abbrev So : Option Place → Acting → Outcome → Type 0
  So = LeftSo home constant p i q signals

  module _ (Is : Frames → Held → Type 0) (tracks : Tracks W C Is) where
    waits_so : (at : Place) (b : Acting) (h : Held) (o : Outcome) → at.number < states p.cells C → Alike home p signals b h → o ≡ outcome_of W C (moved.Waits at.number at.left h) → So (Some at) b o
    waits_so at b h o below alike e =
        let f = tracks.has_frames at below in
        (f.0, h, e ∙ ap (λ z. Suspended (found_or_stop z) h) f.1, f.1, alike)

    from_ran : (r : Ran) (o : Halted) (left : Left) (u : Outcome) → SameRan home p signals r o → left_by None r ≡ Some left → Stands W C o → u ≡ outcome_of W C o → So left.place left.acting u
    from_ran (effect.Waits b at) (moved.Waits number l h) left u s d st e =
        let same : record { number = number; left = l } ≡ at = λ j. record { number = sym s.0 j; left = sym s.1 j } in
        let below = subst (λ z. z.number < states p.cells C) same st in
        let e' = subst (λ z. u ≡ outcome_of W C (moved.Waits z.number z.left h)) same e in
        subst (λ z. So z.place z.acting u) (some_same d) (waits_so at b h u below s.2 e')
    from_ran (effect.Ends b) (moved.Ends h) left u s d st e = subst (λ z. So z.place z.acting u) (some_same d) (h, e, st, s)
    from_ran effect.Fails o left u s d st e = absurd cc
    from_ran (effect.Waits b at) (moved.Ends h) left u s d st e = absurd s
    from_ran (effect.Waits b at) (moved.Fails h) left u s d st e = absurd s
    from_ran (effect.Ends b) (moved.Waits number l h) left u s d st e = absurd s
    from_ran (effect.Ends b) (moved.Fails h) left u s d st e = absurd s

    ran : (n : ℕ) (a : Acting) (h : Held) (left : Left) (u : Outcome) → Alike home p signals a h → ran_segment p.cells (segment_at p.cells q n) a ≡ Some left → Stands W C (run_on W (segment_numbered W C n) h)
        → u ≡ outcome_of W C (run_on W (segment_numbered W C n) h) → So left.place left.acting u
    ran n a h left u alike d st e = by (slice_get (all_segments (live_body p.cells C)) n) refl d st e
      where
        by : (o : Option Segment) → slice_get (all_segments (live_body p.cells C)) n ≡ o → ran_segment p.cells o a ≡ Some left → Stands W C (run_on W (segment_or W C o) h) → u ≡ outcome_of W C (run_on W (segment_or W C o) h) → So left.place left.acting u
        by None f d' st' e' = absurd cc
        by (Some s) f d' st' e' =
            from_ran (run_segment p.cells s a) (run_on W s h) left u
            (runs_alike home constant p i q signals apart s a h alike (fit_at q p.cells (all_segments (live_body p.cells C)) n s (fit_all q p.cells C fit) f)) d' st' e'

    behind : (number l : ℕ) (f : Frames) (a : Acting) (h : Held) (left : Left) → frames_of W C (record { number = number; left = l }) ≡ Some f → Is f h → Alike home p signals a h
        → behind_wait p.cells q (record { number = number; left = l }) a ≡ Some left → (n : ℕ) → steps_of C ≤ n → So left.place left.acting (run W.places W.functions W.signals n f h)
    behind number zero f a h left st is alike d n le =
        let at : Place = record { number = number; left = zero } in
        ran (suc number) a h left _ alike d (tracks.stays false at h (tracks.is_wait at f st)) (tracks.resumes false at f h st is n le)
    behind number (suc l) f a h left st is alike d n le =
        let at : Place = record { number = number; left = suc l } in
        subst (λ z. So z.place z.acting (run W.places W.functions W.signals n f h)) (some_same d)
        (waits_so (record { number = number; left = l }) a h _ (tracks.is_wait at f st) alike (tracks.resumes false at f h st is n le))

    pub thread_turns : ThreadTurns home constant p i q signals Is
    thread_turns true place f a h left st is alike d n le = ran 0 a h left _ alike d (tracks.stands h) (tracks.begins h is n le)
    thread_turns false None f a h left st is alike d n le =
        subst (λ g. So left.place left.acting (run W.places W.functions W.signals n g h)) (sym st)
        (ran 0 a h left _ alike d (tracks.stands h) (tracks.begins h (subst (λ g. Is g h) st is) n le))
    thread_turns false (Some at) f a h left st is alike d n le = behind at.number at.left f a h left st is alike d n le

  module _ (a : Along W) (tests : Tests W a.Holds C) (quiet : idle_loops (live p.cells C) ≡ []) (alone : opens 0 (live p.cells C) ≡ false) where
    pub method_turns : MethodTurns home constant p i q signals a.Is
    method_turns b h left is alike d n le =
        by (effect p.cells (live p.cells C) b) (effect_on W (live p.cells C) h) refl (acts_alike home constant p i q signals apart (live p.cells C) b h alike (fit_alive q p.cells C fit)) d
      where
        same : numbered 0 (live p.cells C) ≡ live p.cells C
        same = quiet_same (live p.cells C) 0 0 alone

        over : (g : Held) → Within W 0 Stop g (Ended g)
        over g = record { by = ended }
          where
            ended : (n : ℕ) → 0 ≤ n → run W.places W.functions W.signals n Stop g ≡ Ended g
            ended zero le' = refl
            ended (suc n) le' = refl

        by : (o : Effect) (z : Done) → effect_on W (live p.cells C) h ≡ z → SameDone home p signals o z → method_left o ≡ Some left
            → (g : Held) × (run W.places W.functions W.signals n (first_of W C) h ≡ Ended g) × Alike home p signals left.acting g
        by (effect.Fell c) (moved.Fell g) e s m =
            let e' = ap (λ y. effect_on W y h) same ∙ e in
            let goes = subst (λ y. Rattle.scc_states_path_laws.proofs.Does.Goes W a 0 y Stop (Ended g)) (sym e') (λ is'. over g) in
            let r = does W a C tests 0 0 Inner Stop h 0 (Ended g) (must_wait (live p.cells C) quiet) (ap (opens 0) same ∙ alone) is goes in
            (g, r.by n (omega arith), subst (λ y. Alike home p signals y.acting g) (some_same m) s)
        by (effect.Fell c) (moved.Out k g) e s m = absurd s
        by (effect.Fell c) (moved.Sticks g) e s m = absurd s
        by (effect.Left_out k c) z e s m = absurd cc
        by effect.Lost z e s m = absurd cc

module _ (home : Home) (constant : Location → Option ℕ) (p : Program) (i : ℕ) (q : Process) (signals : Location → ℕ) where
  abbrev D : running.Design
  D = source_of home p constant

  pub threads : slice_get p.processes i ≡ Some q → Keeps D → TellsApart home p i q → IsFitCode q p.cells q.body → loop_may_not_wait p ≡ None
      → ThreadTurns home constant p i q signals (Reached D i (running_of home p i q) signals)
  threads at keeps apart fit waits = thread_turns home constant p i q signals apart fit (Reached D i (running_of home p i q) signals)
      (thread_is_tracked home constant p i (running_of home p i q) signals q.body keeps (stands home constant p i q at) (tests_hold home constant p i q signals apart q.body fit) (quiet_loops p i q waits at))

  pub methods : slice_get p.processes i ≡ Some q → Keeps D → TellsApart home p i q → IsFitCode q p.cells q.body → loop_may_not_wait p ≡ None → opens 0 (live p.cells q.body) ≡ false
      → MethodTurns home constant p i q signals (Reached D i (running_of home p i q) signals)
  unfolding along
  methods at keeps apart fit waits alone = method_turns home constant p i q signals apart fit (along home constant p i (running_of home p i q) signals keeps (stands home constant p i q at))
      (tests_hold home constant p i q signals apart q.body fit) (quiet_loops p i q waits at) alone
