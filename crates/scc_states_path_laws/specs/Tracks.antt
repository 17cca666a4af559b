-- A suspended thread is the number of a wait and a count: a resume, with or without reset, comes to what a segment comes to, within a number of steps.
-- This project's own.
use Rattle.std.specs.Prelude.{◌≡◌, ◌⊎◌, ℕ, zero, suc, ◌+◌, ◌*◌, ◌≤◌, ◌<◌, Bool, true, false, Option, Some, None, slice_get}
use Rattle.scc_semantics.specs.Value.{Held}
use Rattle.scc_semantics.specs.Machine.{Frames, Stop, Go, Inner, Outcome, Suspended, Ended, Stuck, run}
use Rattle.scc_core_spec.specs.Code.{Code, size}
use Rattle.scc_core_spec.specs.Static.{Cells}
use Rattle.scc_core_spec.specs.Live.{alive}
use Rattle.scc_core_spec.specs.Segments.{Segment, Finish, all_segments}
use Rattle.scc_core_spec.specs.Sizes.{loops_deep, live_body, states}
use Rattle.scc_core_spec.specs.Source.{body_of}
use Rattle.scc_blocks_spec.specs.Effect.{Place}
use Rattle.scc_blocks_spec.specs.Places.{frames_at}
use Rattle.scc_states_path_laws.specs.Moved.{World, Halted, Waits, Ends, Fails, run_on, found_or_stop}

-- so many steps take a process whose body has this code to its next wait or to its end
abbrev pub steps_of : Code → ℕ
steps_of c = (loops_deep c + 1) * size c

-- some path comes to the end, or leaves more blocks than stand around
abbrev pub MayEnd : Cells → Code → Type 0
MayEnd cs c = ((alive cs c).ends ≡ true) ⊎ ((j : ℕ) × ((alive cs c).leaves j ≡ true))

module _ (w : World) (c : Code) where
  abbrev pub frames_of : Place → Option Frames
  frames_of q = frames_at w.home w.cells w.process w.names c q

  abbrev pub first_of : Frames
  first_of = Go Inner w.names (body_of w.home w.cells w.process c) Stop

  -- the frames from which a resume goes on
  abbrev pub resumed : Bool → Frames → Frames
  resumed true f = first_of
  resumed false f = f

  abbrev pub segment_or : Option Segment → Segment
  segment_or None = Finish
  segment_or (Some s) = s

  abbrev pub segment_numbered : ℕ → Segment
  segment_numbered n = segment_or (slice_get (all_segments (live_body w.cells c)) n)

  -- a wait that isn't over counts, one that is over goes on with its segment
  abbrev pub goes_on : ℕ → ℕ → Held → Halted
  goes_on number zero h = run_on w (segment_numbered (suc number)) h
  goes_on number (suc left) h = Waits number left h

  abbrev pub moved : Bool → Place → Held → Halted
  moved true q h = run_on w (segment_numbered 0) h
  moved false q h = goes_on q.number q.left h

  -- the machine's outcome where a segment halts
  abbrev pub outcome_of : Halted → Outcome
  outcome_of (Waits number left h) = Suspended (found_or_stop (frames_of (record { number = number; left = left }))) h
  outcome_of (Ends h) = Ended h
  outcome_of (Fails h) = Stuck h

  -- at a wait of the thread; at the end only where a path comes there
  abbrev pub Stands : Halted → Type 0
  Stands (Waits number left h) = number < states w.cells c
  Stands (Ends h) = MayEnd w.cells c
  Stands (Fails h) = Unit {0}

  pub record Tracks (Is : Frames → Held → Type 0) : Type 0 where
    pub begins : (h : Held) → Is first_of h → (n : ℕ) → steps_of c ≤ n → run w.places w.functions w.signals n first_of h ≡ outcome_of (run_on w (segment_numbered 0) h)
    pub resumes : (reset : Bool) (q : Place) (f : Frames) (h : Held) → frames_of q ≡ Some f → Is (resumed reset f) h → (n : ℕ) → steps_of c ≤ n
        → run w.places w.functions w.signals n (resumed reset f) h ≡ outcome_of (moved reset q h)
    -- the place to which it comes has frames, and the next resume finds them
    pub stands : (h : Held) → Stands (run_on w (segment_numbered 0) h)
    pub stays : (reset : Bool) (q : Place) (h : Held) → q.number < states w.cells c → Stands (moved reset q h)
    pub has_frames : (q : Place) → q.number < states w.cells c → (f : Frames) × (frames_of q ≡ Some f)
    pub is_wait : (q : Place) (f : Frames) → frames_of q ≡ Some f → q.number < states w.cells c
