use Rattle.std.proofs.Common.{◌≡◌, List, true, take}
use Rattle.std.specs.List.{list_all}
use Rattle.scc_core.specs.Tables.{IsTable}
use Rattle.scc_core.specs.declared.program.VectorSize2.{VectorSize2}
use Rattle.scc_core_look.specs.Rows.{cell_covered}
use Rattle.scc_core_look.proofs.rows.Rows.covers_some.Given as goal

abbrev pub invariant-loop-cell : goal.invariant-loop-cell
invariant-loop-cell l = (vectors : List VectorSize2) → IsTable l.places l.cells vectors → l.all ≡ true → list_all (cell_covered l.self l.cells) (take l.cell-index l.some) ≡ true
