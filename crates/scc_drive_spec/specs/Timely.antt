-- What holds of each accepted source by itself, whatever is written: each process comes to its next wait in time, and the order in which the scheduler runs processes
-- doesn't show. This project's own.
use Rattle.std.specs.Prelude.{◌≡◌, ℕ, true, false, List, Some, slice_get, option_map, unwrap_or}
use Rattle.scc_semantics.specs.Location.{Location}
use Rattle.scc_semantics.specs.Places.{Sort}
use Rattle.scc_semantics.specs.Design.{Design, Process}
use Rattle.scc_semantics.specs.Machine.{Frames, Outcome, Suspended, Ended, run}
use Rattle.scc_semantics.specs.Process.{State, Well, is_thread}
use Rattle.scc_semantics.specs.Run.{Step, Shown, shown, FitSteps}
use Rattle.scc_semantics.specs.Schedule.{AnyOrder}
use Rattle.scc_semantics.specs.Start.{IsStart}
use Rattle.scc_semantics.specs.Value.{Held}
use Rattle.scc_core_spec.specs.Program.{Program}
use Rattle.scc_core_spec.specs.Sizes.{bound}
use Rattle.scc_blocks_spec.specs.Comes.{Comes}
use Rattle.scc_semantics.specs.Rounds.{EndsSoon}
use Rattle.scc_drive_spec.specs.Comes.{Accepted}
use Rattle.scc_drive_spec.specs.Compiled.{design_of, kept_of}

-- the number of statements that `list` says for each process, by its number
abbrev pub bounds_of : Program → ℕ → ℕ
bounds_of p i = unwrap_or (option_map (λ q. bound q.body) (slice_get p.processes i)) 0

-- a thread is suspended at a wait, and never at its end; a method is at its end; neither is stuck or unfinished
abbrev pub IsDone : Sort → Outcome → Type 0
IsDone sort (Suspended f h) = is_thread sort ≡ true
IsDone sort (Ended h) = is_thread sort ≡ false
IsDone sort o = ⊥

-- Each process, by itself: wherever it comes to, within its bound it comes to its next wait or to its method's end.
abbrev pub ReachesWaits : (bounds : ℕ → ℕ) → Design → Type 0
ReachesWaits bounds d = (i : ℕ) (p : Process) (signals : Location → ℕ) (f : Frames) (h : Held) → slice_get d.processes i ≡ Some p → Comes d i p signals f h
    → IsDone p.sort (run d.places d.functions signals (bounds i) f h)

-- The whole design: from each start, over all steps that fit, with so many statements allowed to each process in a resume, it shows something.
abbrev pub InTime : (bounds : ℕ → ℕ) → Design → Type 0
InTime bounds d = (s : State) → IsStart d s → (xs : List Step) → FitSteps d xs → (os : List Shown) × (shown bounds d xs s ≡ Well os)

pub record IsTimely (a : Accepted) : Type 0 where
  pub waits : ReachesWaits (bounds_of a.compiled.core) (design_of a)
  pub in_time : InTime (bounds_of a.compiled.core) (design_of a)
  -- whatever order the scheduler chooses, each step that comes to rest leaves the same outputs and registers
  pub any_order : AnyOrder (kept_of a) (design_of a)
  -- and each settling comes to rest after as many rounds as there are methods, and one more
  pub ends_soon : EndsSoon (design_of a)
