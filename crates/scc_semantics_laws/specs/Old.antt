-- A definition of meaning the same that says nothing of what other processes leave in pointers, to show that it is too weak.
use Rattle.std.specs.Prelude.{◌≡◌, ℕ, ◌+◌, ◌*◌, Bool, List, [], ◌∷◌, map, Option, Some, None, if◌then◌else◌}
use Rattle.scc_semantics.specs.Location.{Location}
use Rattle.scc_semantics.specs.Store.{Request}
use Rattle.scc_semantics.specs.Design.{Process, Design}
use Rattle.scc_semantics.specs.Value.{Held}
use Rattle.scc_semantics.specs.Machine.{Frames, Stop, Outcome, Suspended, Ended, Stuck, Unfinished, run}
use Rattle.scc_semantics.specs.Process.{first_frames}
use Rattle.scc_semantics.specs.Start.{IsProper}

-- what a resume finds: whether it begins at the first statement, and the words of the variables and of the signals
pub record Turn : Type 0 where
  pub restarts : Bool
  pub words : Location → ℕ
  pub signals : Location → ℕ

pub data Ending : Type 0 where
  Waits : Ending
  Ends : Ending
  Sticks : Ending

-- what a resume comes to: how, the words of the variables, and the requests
pub record Seen : Type 0 where
  pub ending : Ending
  pub words : Location → ℕ
  pub requests : List Request

abbrev pub seen_as : Ending → Held → Seen
seen_as e h = record { ending = e; words = h.store.words; requests = h.requests }

abbrev pub seen_of : Outcome → Option Seen
seen_of (Suspended f h) = Some (seen_as Waits h)
seen_of (Ended h) = Some (seen_as Ends h)
seen_of (Stuck h) = Some (seen_as Sticks h)
seen_of Unfinished = None

-- a process in the middle: where it goes on, and where the pointers lead
pub record Middle : Type 0 where
  pub frames : Frames
  pub targets : Location → Option Location

abbrev pub left_in : Outcome → Middle → Middle
left_in (Suspended f h) m = record { frames = f; targets = h.store.targets }
left_in (Ended h) m = record { frames = Stop; targets = h.store.targets }
left_in (Stuck h) m = m
left_in Unfinished m = m

-- a resume of process i with so many statements
abbrev pub resumed : Design → ℕ → Process → ℕ → Turn → Middle → Outcome
resumed d i p n t m = run d.places d.functions t.signals n (if t.restarts then first_frames i p else m.frames)
    (record { store = record { words = t.words; targets = m.targets }; requests = [] })

-- over these resumes, each with so many statements, the process shows this
abbrev pub Plays : Design → ℕ → Process → Middle → List ℕ → List Turn → List Seen → Type 0
Plays d i p m [] [] [] = Unit {0}
Plays d i p m (n ∷ ns) (t ∷ ts) (o ∷ os) =
    (seen_of (resumed d i p n t m) ≡ Some o) × Plays d i p (left_in (resumed d i p n t m) m) ns ts os
Plays d i p m _ _ _ = ⊥

abbrev pub AllProper : Design → List Turn → Type 0
AllProper d [] = Unit {0}
AllProper d (t ∷ ts) = IsProper d t.words × IsProper d t.signals × AllProper d ts

abbrev pub at_first : Design → ℕ → Process → Middle
at_first d i p = record { frames = first_frames i p; targets = d.targets }

-- Process q of e means what process p of d means: over every list of resumes from proper words it shows the same. With n statements of it go at
-- most k times n of the other.
pub record MeansTheSame (k : ℕ) (d e : Design) (i : ℕ) (p q : Process) : Type 0 where
  pub plays : (ns : List ℕ) (ts : List Turn) (os : List Seen) → AllProper d ts → Plays d i p (at_first d i p) ns ts os
      → (ms : List ℕ) × Plays e i q (at_first e i q) ms ts os
  pub only : (ns : List ℕ) (ts : List Turn) (os : List Seen) → AllProper d ts → Plays e i q (at_first e i q) ns ts os
      → Plays d i p (at_first d i p) (map (λ n. k * n) ns) ts os

-- the same, process by process from i on
abbrev pub AllTheSame : ℕ → Design → Design → ℕ → List Process → List Process → Type 0
AllTheSame k d e i [] [] = Unit {0}
AllTheSame k d e i (p ∷ ps) (q ∷ qs) = (p.sort ≡ q.sort) × MeansTheSame k d e i p q × AllTheSame k d e (i + 1) ps qs
AllTheSame k d e i _ _ = ⊥

-- Two designs that have the same things, ports and constants, and whose processes mean the same. Their pointers may differ.
pub record SameDesign (k : ℕ) (d e : Design) : Type 0 where
  pub things : (l : Location) → d.places.things l ≡ e.places.things l
  pub ports : d.ports ≡ e.ports
  pub fixed : (l : Location) → d.fixed l ≡ e.fixed l
  pub constants : (l : Location) → d.constant l ≡ e.constant l
  pub processes : AllTheSame k d e 0 d.processes e.processes
