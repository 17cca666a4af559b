use Rattle.std.proofs.Common.{◌≡◌, true, take}
use Rattle.scc_core_look.specs.Wholes.{AreHeld}
use Rattle.scc_core_look.proofs.wholes.are_held.Given as goal

abbrev pub invariant-loop-cell : goal.invariant-loop-cell
invariant-loop-cell l = l.held ≡ true → AreHeld (take l.cell-index l.cells)
