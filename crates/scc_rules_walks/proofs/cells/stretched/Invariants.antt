use Rattle.std.proofs.Common.{◌≡◌, take}
use Rattle.scc_rules_walks.specs.Cells.{stretched}
use Rattle.scc_rules_walks.proofs.cells.stretched.Given as goal

abbrev pub invariant-loop-cell : goal.invariant-loop-cell
invariant-loop-cell l = l.out.items ≡ stretched l.size l.stride (take l.cell-index l.cells)
