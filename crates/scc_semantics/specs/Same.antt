-- What a process shows over a list of resumes, and when two designs mean the same, process by process. This project's own.
use Rattle.std.specs.Prelude.{◌≡◌, ℕ, ◌+◌, ◌*◌, nat_eq, Bool, true, false, not, List, [], ◌∷◌, map, Option, Some, None, if◌then◌else◌}
use Rattle.scc_semantics.specs.Location.{Location, Root, Top, Local, Answer, same}
use Rattle.scc_semantics.specs.Store.{Request}
use Rattle.scc_semantics.specs.Design.{Process, Design}
use Rattle.scc_semantics.specs.Value.{Held}
use Rattle.scc_semantics.specs.Machine.{Frames, Stop, Outcome, Suspended, Ended, Stuck, Unfinished, run}
use Rattle.scc_semantics.specs.Process.{first_frames}
use Rattle.scc_semantics.specs.Start.{IsProper}

-- what a resume finds: whether it begins at the first statement, the words of the variables and of the signals, and where pointers of other processes
-- lead. The pointers of the top and its own are as its last resume left them.
pub record Turn : Type 0 where
  pub restarts : Bool
  pub words : Location → ℕ
  pub signals : Location → ℕ
  pub others : Location → Option Location

-- a local or a result of the process, or of another one; the top is no process's
abbrev pub is_own : ℕ → Root → Bool
is_own i Top = false
is_own i (Local j calls n) = nat_eq i j
is_own i (Answer j calls) = nat_eq i j

abbrev pub is_others : ℕ → Root → Bool
is_others i Top = false
is_others i (Local j calls n) = not (nat_eq i j)
is_others i (Answer j calls) = not (nat_eq i j)

abbrev pub same_target : Option Location → Option Location → Bool
same_target None None = true
same_target (Some l) (Some m) = same l m
same_target _ _ = false

-- a pointer that isn't its own leads elsewhere than before
abbrev pub moved : ℕ → (before after : Location → Option Location) → Location → Bool
moved i before after l = if is_own i l.root then false else not (same_target (before l) (after l))

pub data Ending : Type 0 where
  Waits : Ending
  Ends : Ending
  Sticks : Ending

-- what a resume comes to: how, the words of the variables, the requests, and which pointers it moved that aren't its own
pub record Seen : Type 0 where
  pub ending : Ending
  pub words : Location → ℕ
  pub requests : List Request
  pub moved : Location → Bool

abbrev pub seen_as : ℕ → (Location → Option Location) → Ending → Held → Seen
seen_as i before e h = record { ending = e; words = h.store.words; requests = h.requests; moved = moved i before h.store.targets }

abbrev pub seen_of : ℕ → (Location → Option Location) → Outcome → Option Seen
seen_of i before (Suspended f h) = Some (seen_as i before Waits h)
seen_of i before (Ended h) = Some (seen_as i before Ends h)
seen_of i before (Stuck h) = Some (seen_as i before Sticks h)
seen_of i before Unfinished = None

-- a process in the middle: where it goes on, and where the pointers lead
pub record Middle : Type 0 where
  pub frames : Frames
  pub targets : Location → Option Location

abbrev pub left_in : Outcome → Middle → Middle
left_in (Suspended f h) m = record { frames = f; targets = h.store.targets }
left_in (Ended h) m = record { frames = Stop; targets = h.store.targets }
left_in (Stuck h) m = m
left_in Unfinished m = m

-- where pointers lead that a resume finds
abbrev pub leading : ℕ → Turn → Middle → Location → Option Location
leading i t m l = if is_others i l.root then t.others l else m.targets l

-- a resume of process i with so many statements
abbrev pub resumed : Design → ℕ → Process → ℕ → Turn → Middle → Outcome
resumed d i p n t m = run d.places d.functions t.signals n (if t.restarts then first_frames i p else m.frames)
    (record { store = record { words = t.words; targets = leading i t m }; requests = [] })

-- over these resumes, each with so many statements, the process shows this
abbrev pub Plays : Design → ℕ → Process → Middle → List ℕ → List Turn → List Seen → Type 0
Plays d i p m [] [] [] = Unit {0}
Plays d i p m (n ∷ ns) (t ∷ ts) (o ∷ os) =
    (seen_of i (leading i t m) (resumed d i p n t m) ≡ Some o) × Plays d i p (left_in (resumed d i p n t m) m) ns ts os
Plays d i p m _ _ _ = ⊥

abbrev pub AllProper : Design → List Turn → Type 0
AllProper d [] = Unit {0}
AllProper d (t ∷ ts) = IsProper d t.words × IsProper d t.signals × AllProper d ts

abbrev pub at_first : Design → ℕ → Process → Middle
at_first d i p = record { frames = first_frames i p; targets = d.targets }

-- Process q of e means what process p of d means: over every list of resumes from proper words it shows the same. With n statements of it go at
-- most k times n of the other.
pub record MeansTheSame (k : ℕ) (d e : Design) (i : ℕ) (p q : Process) : Type 0 where
  pub plays : (ns : List ℕ) (ts : List Turn) (os : List Seen) → AllProper d ts → Plays d i p (at_first d i p) ns ts os
      → (ms : List ℕ) × Plays e i q (at_first e i q) ms ts os
  pub only : (ns : List ℕ) (ts : List Turn) (os : List Seen) → AllProper d ts → Plays e i q (at_first e i q) ns ts os
      → Plays d i p (at_first d i p) (map (λ n. k * n) ns) ts os

-- the same, process by process from i on
abbrev pub AllTheSame : ℕ → Design → Design → ℕ → List Process → List Process → Type 0
AllTheSame k d e i [] [] = Unit {0}
AllTheSame k d e i (p ∷ ps) (q ∷ qs) = (p.sort ≡ q.sort) × MeansTheSame k d e i p q × AllTheSame k d e (i + 1) ps qs
AllTheSame k d e i _ _ = ⊥

-- Two designs that have the same things, ports and constants, and whose processes mean the same. Their pointers may differ.
pub record SameDesign (k : ℕ) (d e : Design) : Type 0 where
  pub things : (l : Location) → d.places.things l ≡ e.places.things l
  pub ports : d.ports ≡ e.ports
  pub fixed : (l : Location) → d.fixed l ≡ e.fixed l
  pub constants : (l : Location) → d.constant l ≡ e.constant l
  pub processes : AllTheSame k d e 0 d.processes e.processes
