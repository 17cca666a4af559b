use Rattle.std.proofs.Common.{◌≡◌, [], take}
use Rattle.scc_core.specs.Tables.{IsTable}
use Rattle.scc_core.proofs.places.Places.fill.Given as goal

abbrev pub invariant-loop-cell : goal.invariant-loop-cell
invariant-loop-cell l = (l.number ≡ l.cell-index) × (IsTable l.initial.self [] [] → IsTable l.self (take l.cell-index l.cells) [])
