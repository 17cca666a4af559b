use Rattle.std.proofs.Common.{◌≡◌, drop}
use Rattle.std.specs.List.{list_any}
use Rattle.scc_rules_walks.specs.Cells.{has_flag}
use Rattle.scc_rules_walks.proofs.cells.has_any.Given as goal

abbrev pub invariant-loop-cell : goal.invariant-loop-cell
invariant-loop-cell l = list_any (has_flag l.set) (drop l.cell-index l.cells) ≡ list_any (has_flag l.set) l.cells
