-- What the statements of a process read and write, as one list: each location with the cells that it names, in the order of the walk. This project's own.
use Rattle.std.specs.Prelude.{◌≡◌, ◌⊎◌, ℕ, suc, Bool, true, false, List, [], ◌∷◌, ◌++◌, map, Option, Some, None}
use Rattle.scc_base.specs.declared.refusal.Place.{Place}
use Rattle.scc_core_spec.specs.Program.{Process, Program}
use Rattle.scc_core_spec.specs.Static.{Cells}
use Rattle.scc_core_spec.specs.Term.{Left, Pick, place_at}
use Rattle.scc_core_spec.specs.Uses.{Use, Act, cells_of}
use Rattle.scc_core_spec.specs.Clashes.{live_acts}

pub record Seen : Type 0 where
  -- that of the expression that reads, or of the location that is written
  pub place : Place
  -- that of the statement, and its number in the walk
  pub statement : Place
  pub number : ℕ
  pub write : Bool
  -- ports by their roots
  pub cells : List ℕ

abbrev pub read_at : Cells → ℕ → Place → Use → Seen
read_at cs n at u = record { place = u.place; statement = at; number = n; write = false; cells = cells_of cs u.left }

abbrev pub put_at : Cells → ℕ → Place → Option (Left × Pick) → List Seen
put_at cs n at None = []
put_at cs n at (Some w) = record { place = place_at w.0; statement = at; number = n; write = true; cells = cells_of cs w.0 } ∷ []

-- of one statement what it reads, then what it writes
abbrev pub seen_at : Cells → ℕ → Act → List Seen
seen_at cs n a = map (read_at cs n a.place) a.reads ++ put_at cs n a.place a.writes

-- of statements that are numbered from n on
abbrev pub seen_from : Cells → ℕ → List Act → List Seen
seen_from cs n [] = []
seen_from cs n (a ∷ more) = seen_at cs n a ++ seen_from cs (suc n) more

-- of the live part of a process
abbrev pub seen_in : Cells → Process → List Seen
seen_in cs q = seen_from cs 0 (live_acts cs q)

-- ---- the same without what tells nothing new

-- the same cells are read so, or written so, by one of these
abbrev pub IsCovered : Seen → List Seen → Type 0
IsCovered s [] = ⊥
IsCovered s (t ∷ ts) = ((s.cells ≡ t.cells) × (s.write ≡ t.write)) ⊎ IsCovered s ts

-- Behind these a list is the other one without some that name no cell, or the same cells as one before.
abbrev pub IsThinned : (before all thin : List Seen) → Type 0
IsThinned before [] thin = thin ≡ []
IsThinned before (s ∷ all) thin =
    ((rest : List Seen) × (thin ≡ s ∷ rest) × IsThinned (s ∷ before) all rest) ⊎ (((s.cells ≡ []) ⊎ IsCovered s before) × IsThinned before all thin)

-- of each process
abbrev pub AreThinned : (all thin : List (List Seen)) → Type 0
AreThinned [] [] = Unit {0}
AreThinned (a ∷ all) (t ∷ thin) = IsThinned [] a t × AreThinned all thin
AreThinned _ _ = ⊥

-- of a program's processes
abbrev pub AreSeen : Program → List (List Seen) → Type 0
AreSeen p thin = AreThinned (map (seen_in p.cells) p.processes) thin
