-- A turn of the registers is a resume of the machine. This project's own.
use Rattle.std.specs.Prelude.{◌≡◌, ℕ, ◌≤◌, ◌<◌, Bool, Option, Some, None}
use Rattle.scc_semantics.specs.Location.{Location}
use Rattle.scc_semantics.specs.Value.{Held}
use Rattle.scc_semantics.specs.Machine.{Frames, Outcome, Suspended, Ended, run}
use Rattle.scc_core_spec.specs.Program.{Program, Process}
use Rattle.scc_core_spec.specs.Code.{size}
use Rattle.scc_core_spec.specs.Static.{Cells}
use Rattle.scc_core_spec.specs.Sizes.{states}
use Rattle.scc_core_spec.specs.Live.{live}
use Rattle.scc_core_spec.specs.Source.{Home}
use Rattle.scc_blocks_spec.specs.Acting.{Acting}
use Rattle.scc_blocks_spec.specs.Effect.{Place, effect}
use Rattle.scc_blocks_spec.specs.Turns.{Left, thread_turn, method_left}
use Rattle.scc_states_path_laws.specs.Moved.{World}
use Rattle.scc_states_laws.specs.Processes.{world_of}
use Rattle.scc_states_path_laws.specs.Tracks.{steps_of, frames_of, first_of, resumed, MayEnd}
use Rattle.scc_states_laws.specs.Alike.{Alike}

module _ (home : Home) (constant : Location → Option ℕ) (p : Program) (i : ℕ) (q : Process) (signals : Location → ℕ) where
  abbrev pub w : World
  w = world_of home constant p i signals

  -- the frames of a thread by its place; before its first edge it stands before its first statement
  abbrev pub StandsAt : Option Place → Frames → Type 0
  StandsAt None f = f ≡ first_of w q.body
  StandsAt (Some at) f = frames_of w q.body at ≡ Some f

  -- the machine's outcome is what a thread left: it waits at the place, with the same words and requests
  abbrev pub LeftSo : Option Place → Acting → Outcome → Type 0
  LeftSo (Some at) a o = (f : Frames) × (h : Held) × (o ≡ Suspended f h) × (frames_of w q.body at ≡ Some f) × Alike home p signals a h
  LeftSo None a o = (h : Held) × (o ≡ Ended h) × MayEnd p.cells q.body × Alike home p signals a h

  -- Under a bound of steps a resume of the thread, with or without reset, is a turn of its registers.
  abbrev pub ThreadTurns : (Frames → Held → Type 0) → Type 0
  ThreadTurns Is = (reset : Bool) (place : Option Place) (f : Frames) (a : Acting) (h : Held) (left : Left) → StandsAt place f → Is (resumed w q.body reset f) h → Alike home p signals a h
      → thread_turn p.cells q reset place a ≡ Some left → (n : ℕ) → steps_of q.body ≤ n → LeftSo left.place left.acting (run w.places w.functions w.signals n (resumed w q.body reset f) h)

  -- and a run of a method is a turn of its registers
  abbrev pub MethodTurns : (Frames → Held → Type 0) → Type 0
  MethodTurns Is = (a : Acting) (h : Held) (left : Left) → Is (first_of w q.body) h → Alike home p signals a h
      → method_left (effect p.cells (live p.cells q.body) a) ≡ Some left → (n : ℕ) → size q.body ≤ n
      → (g : Held) × (run w.places w.functions w.signals n (first_of w q.body) h ≡ Ended g) × Alike home p signals left.acting g

-- a place of a thread is one of its waits
abbrev pub IsPlace : Cells → Process → Option Place → Type 0
IsPlace cs q None = Unit {0}
IsPlace cs q (Some at) = at.number < states cs q.body

-- A thread makes a turn whatever the registers hold, at each of its places, and a method too.
abbrev pub MakesTurns : Cells → Process → Type 0
MakesTurns cs q = (reset : Bool) (place : Option Place) (a : Acting) → IsPlace cs q place → (left : Left) × (thread_turn cs q reset place a ≡ Some left)

abbrev pub IsDone : Cells → Process → Type 0
IsDone cs q = (a : Acting) → (left : Left) × (method_left (effect cs (live cs q.body) a) ≡ Some left)

-- Of a thread: whatever the store holds, each resume comes to a wait within its bound; it isn't stuck and doesn't end.
abbrev pub ComesToWaits : Home → (Location → Option ℕ) → Program → ℕ → Process → (Location → ℕ) → (Frames → Held → Type 0) → Type 0
ComesToWaits home constant p i q signals Is = (reset : Bool) (place : Option Place) (f : Frames) (h : Held) → StandsAt home constant p i q signals place f → Is (resumed (world_of home constant p i signals) q.body reset f) h
    → (n : ℕ) → steps_of q.body ≤ n → (at : Place) × (g : Frames) × (k : Held)
    × (run (world_of home constant p i signals).places (world_of home constant p i signals).functions signals n (resumed (world_of home constant p i signals) q.body reset f) h ≡ Suspended g k)
    × (frames_of (world_of home constant p i signals) q.body at ≡ Some g)
