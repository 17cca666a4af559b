use Rattle.std.proofs.Common.{◌≡◌, map, take}
use Rattle.scc_rules_walks.specs.Cells.{root_at}
use Rattle.scc_rules_walks.proofs.cells.each_root.Given as goal

abbrev pub invariant-loop-cell : goal.invariant-loop-cell
invariant-loop-cell l = l.out.items ≡ map (root_at l.roots) (take l.cell-index l.cells)
