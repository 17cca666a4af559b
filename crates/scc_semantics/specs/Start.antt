-- Starts, and that each clock's first edge finds the declared resets active. This project's own: the initialization phase of IEEE 1666-2011, 4.2.1.1
-- isn't run, and storage may hold anything.
use Rattle.std.specs.Prelude.{◌≡◌, ℕ, ◌+◌, Bool, true, not, ◌||◌, List, [], ◌∷◌, ◌++◌, Option, Some, None, unwrap_or}
use Rattle.std.specs.List.{list_any, list_all}
use Rattle.scc_semantics.specs.Location.{Location, same}
use Rattle.scc_semantics.specs.Places.{Sort, Thread}
use Rattle.scc_semantics.specs.Design.{Process, Design}
use Rattle.scc_semantics.specs.Machine.{Frames}
use Rattle.scc_semantics.specs.Process.{State, is_active, first_frames}
use Rattle.scc_semantics.specs.Run.{Step, Shown, FitsThing}

abbrev pub HoldsConstant : Option ℕ → ℕ → Type 0
HoldsConstant None x = Unit {0}
HoldsConstant (Some c) x = x ≡ c

-- the processes, numbered from i on, stand before their first statements
abbrev pub AllFirst : ℕ → List Process → (ℕ → Frames) → Type 0
AllFirst i [] frames = Unit {0}
AllFirst i (p ∷ ps) frames = (frames i ≡ first_frames i p) × AllFirst (i + 1) ps frames

-- Words of a store, and of the signals that a resume finds: each fits, and what no process can change or writes holds its constant.
pub record IsProper (d : Design) (words : Location → ℕ) : Type 0 where
  pub fits : (l : Location) → FitsThing (d.places.things l) (words l)
  pub fixed : (l : Location) → HoldsConstant (d.fixed l) (words l)
  pub constants : (l : Location) → HoldsConstant (d.constant l) (words l)

-- A start: proper words; pointers hold what construction left; each thread stands before its first statement.
pub record IsStart (d : Design) (s : State) : Type 0 where
  pub words : IsProper d s.store.words
  pub targets : (l : Location) → s.store.targets l ≡ d.targets l
  pub frames : AllFirst 0 d.processes s.frames

-- a thread whose clock is among these, and among none of those before, finds its reset active
abbrev pub finds_reset : (before at : List Location) → (Location → ℕ) → Sort → Bool
finds_reset before at words (Thread edge (Some r)) = not (list_any (same edge.clock) at) || (list_any (same edge.clock) before || is_active words r)
finds_reset before at words _ = true

abbrev pub resets_found : Design → (before at : List Location) → (Location → ℕ) → Bool
resets_found d before at words = list_all (λ p. finds_reset before at words p.sort) d.processes

-- In what the source shows before it, the first edge of each clock finds the resets of its threads active. Lists without an edge have no such
-- condition, and no more has what follows.
abbrev pub FindsResets : Design → List Location → List Step → List Shown → Type 0
FindsResets d before (x ∷ xs) (o ∷ os) =
    (resets_found d before (unwrap_or x.edge []) o.before.words ≡ true) × FindsResets d (before ++ unwrap_or x.edge []) xs os
FindsResets d before _ _ = Unit {0}
