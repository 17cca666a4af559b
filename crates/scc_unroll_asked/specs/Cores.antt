-- What is asked of a core whose loops are unrolled.
use denote.Ref.{Bor}
use Rattle.std.specs.Prelude.{◌≡◌, List, ◌∷◌, ◌++◌, Some, None}
use Rattle.scc_core.specs.declared.places.Places.{Places}
use Rattle.scc_core.specs.declared.program.Core.{Core}
use Rattle.scc_core.specs.declared.program.CoreProcess.{CoreProcess}
use Rattle.scc_core.specs.declared.statics.Known.{Known}
use Rattle.scc_core.specs.Tables.{IsTable}
use Rattle.scc_unroll_asked.specs.Asked.{AreTaken, asked}

-- its cells by a table of their names, and no counters
pub record IsKnown (known : Known) (c : Core) : Type 0 where
  pub cells : known.cells.now ≡ c.cells
  pub places : (p : Bor Places) → known.places ≡ Some p → IsTable p.now c.cells c.vectors
  pub counters : known.counters ≡ None

abbrev pub AreBodies : Known → List CoreProcess → Type 0
AreBodies known ps = (front back : List CoreProcess) (p : CoreProcess) → ps ≡ front ++ p ∷ back → AreTaken known (asked p.body)

-- what is found by what is known of it for each value that is asked of its bodies is the static one
abbrev pub IsAsked : Core → Type 0
IsAsked c = (known : Known) → IsKnown known c → AreBodies known c.processes
