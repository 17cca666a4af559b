use Rattle.std.proofs.Common.{◌≡◌, map, take}
use Rattle.scc_rules.specs.Marks.{root_cell}
use Rattle.scc_rules.proofs.clock.root_cells.Given as goal

abbrev pub invariant-loop-cell : goal.invariant-loop-cell
invariant-loop-cell l = l.set.items ≡ map root_cell (take l.cell-index l.cells)
