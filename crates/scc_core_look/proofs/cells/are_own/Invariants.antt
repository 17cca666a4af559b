use Rattle.std.proofs.Common.{◌≡◌, true, take}
use Rattle.scc_core_look.specs.Own.{are_own}
use Rattle.scc_core_look.proofs.cells.are_own.Given as goal

abbrev pub invariant-loop-cell : goal.invariant-loop-cell
invariant-loop-cell l = (l.number ≡ l.cell-index) × (l.own ≡ true → are_own l.places 0 (take l.cell-index l.cells) ≡ true)
