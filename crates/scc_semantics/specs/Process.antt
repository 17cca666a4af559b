-- Resuming processes, and settling (IEEE 1666-2011, 4.2.1: evaluation phase and update phase of the scheduler).
use Rattle.std.specs.Prelude.{ℕ, zero, suc, ◌+◌, List, [], ◌∷◌, length, filter, Bool, true, false, nat_eq, Option, Some, None, if◌then◌else◌}
use Rattle.scc_semantics.specs.Location.{Location}
use Rattle.scc_semantics.specs.Places.{Reset, Sort, Combinational, Thread}
use Rattle.scc_semantics.specs.Design.{Process, Design}
use Rattle.scc_semantics.specs.Store.{Store, updated}
use Rattle.scc_semantics.specs.Value.{Held}
use Rattle.scc_semantics.specs.Machine.{Inner, Frames, Stop, Go, Outcome, Suspended, Ended, run}

-- a design at work: its store, and the frames from which each thread goes on, by its number
pub record State : Type 0 where
  pub store : Store
  pub frames : ℕ → Frames

-- a state in the middle of a phase, with the requests of the phase so far
pub record Phase : Type 0 where
  pub held : Held
  pub frames : ℕ → Frames

-- a process before its first statement
abbrev pub first_frames : ℕ → Process → Frames
first_frames i p = Go Inner (record { process = i; calls = []; object = Some p.object }) p.body Stop

-- the signal has the level at which the reset is active
abbrev pub is_active : (Location → ℕ) → Reset → Bool
is_active signals r = nat_eq (signals r.root) (if r.level then 1 else 0)

abbrev pub is_reset : (Location → ℕ) → Option Reset → Bool
is_reset signals None = false
is_reset signals (Some r) = is_active signals r

-- a thread under reset, and a method, begin at the first statement; another thread goes on behind its wait
abbrev pub resumed_frames : (Location → ℕ) → ℕ → Process → Sort → (ℕ → Frames) → Frames
resumed_frames signals i p (Thread edge reset) frames = if is_reset signals reset then first_frames i p else frames i
resumed_frames signals i p _ frames = first_frames i p

abbrev pub framed : ℕ → Frames → (ℕ → Frames) → ℕ → Frames
framed i f frames j = if nat_eq i j then f else frames j

-- It went well, or the resume of a process was neither suspended nor ended within its bound, or that of a method was suspended.
pub data Went (A : Type 0) : Type 0 where
  Well : A → Went A
  Failed : (process : ℕ) → Went A

abbrev pub and_then : {A B : Type 0} → Went A → (A → Went B) → Went B
and_then (Well x) f = f x
and_then (Failed i) f = Failed i

-- a thread may wait, and a method may not
abbrev pub is_thread : Sort → Bool
is_thread (Thread edge reset) = true
is_thread _ = false

abbrev pub suspended : Bool → ℕ → (ℕ → Frames) → Frames → Held → Went Phase
suspended true i frames f h = Well (record { held = h; frames = framed i f frames })
suspended false i frames f h = Failed i

-- what a resume leaves
abbrev pub left_by : Sort → ℕ → (ℕ → Frames) → Outcome → Went Phase
left_by sort i frames (Suspended f h) = suspended (is_thread sort) i frames f h
left_by sort i frames (Ended h) = Well (record { held = h; frames = framed i Stop frames })
left_by sort i frames _ = Failed i

abbrev pub is_levels : Sort → Bool
is_levels (Combinational senses) = true
is_levels _ = false

-- a method whose sensitivity is levels
abbrev pub is_combinational : Process → Bool
is_combinational p = is_levels p.sort

-- So many statements are allowed to each process in a resume. A resume runs until the process is suspended or ended.
module _ (bounds : ℕ → ℕ) (d : Design) where
  abbrev pub resume : (Location → ℕ) → ℕ → Process → Phase → Went Phase
  resume signals i p s = left_by p.sort i s.frames (run d.places d.functions signals (bounds i) (resumed_frames signals i p p.sort s.frames) s.held)

  -- those processes, numbered from i on, in construction order, all on the same signals
  abbrev pub resume_all : (Location → ℕ) → (Process → Bool) → ℕ → List Process → Phase → Went Phase
  resume_all signals test i [] s = Well s
  resume_all signals test i (p ∷ ps) s = and_then (if test p then resume signals i p s else Well s) (resume_all signals test (i + 1) ps)

  -- the requests of a phase take effect together
  abbrev pub update : Phase → State
  update s = record { store = record { words = updated s.held.requests s.held.store.words; targets = s.held.store.targets }; frames = s.frames }

  -- a phase: those processes on the present signals, and then the update
  abbrev pub phase : (Process → Bool) → State → Went State
  phase test s =
      and_then (resume_all s.store.words test 0 d.processes (record { held = record { store = s.store; requests = [] }; frames = s.frames }))
      (λ t. Well (update t))

  abbrev pub rounds : ℕ → State → Went State
  rounds zero s = Well s
  rounds (suc n) s = and_then (phase is_combinational s) (rounds n)

  -- as many rounds of all combinational methods as there are such methods, and one more
  abbrev pub settle : State → Went State
  settle s = rounds (suc (length (filter is_combinational d.processes))) s
