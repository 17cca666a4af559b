-- What processes are sensitive to are no pointers. This project's own.
use Rattle.std.specs.Prelude.{◌≡◌, ℕ, false, List, [], ◌∷◌, Option, Some, None, slice_get}
use Rattle.scc_core_spec.specs.Program.{Program, Process, Edge, Reset, is_pointer}
use Rattle.scc_core_spec.specs.Program as program
use Rattle.scc_core_spec.specs.Static.{Cells}
use Rattle.scc_core_spec.specs.Source.{Home}
use Rattle.scc_core_pass_laws.specs.Pointing.{Apart, OwnCode}

-- a cell that is no pointer, or none
abbrev pub IsKeptCell : Option program.Cell → Type 0
IsKeptCell None = Unit {0}
IsKeptCell (Some c) = is_pointer c.sort ≡ false

module _ (cs : Cells) where
  abbrev pub AreKept : List ℕ → Type 0
  AreKept [] = Unit {0}
  AreKept (n ∷ ns) = IsKeptCell (slice_get cs n) × AreKept ns

  abbrev pub IsKeptEdge : Option Edge → Type 0
  IsKeptEdge None = Unit {0}
  IsKeptEdge (Some e) = IsKeptCell (slice_get cs e.cell)

  abbrev pub IsKeptReset : Option Reset → Type 0
  IsKeptReset None = Unit {0}
  IsKeptReset (Some r) = IsKeptCell (slice_get cs r.cell)

  -- a process by its sensitivity, edge and reset
  pub record IsSensed (q : Process) : Type 0 where
    pub senses : AreKept q.senses
    pub edge : IsKeptEdge q.edge
    pub reset : IsKeptReset q.reset

-- what is asked of a process: names apart, operators of the kinds that they say, no pointer in its sensitivity
pub record IsResolvable (home : Home) (p : Program) (i : ℕ) (q : Process) : Type 0 where
  pub apart : Apart home p i q
  pub own : OwnCode q p.cells q.body
  pub sensed : IsSensed p.cells q
