use Rattle.std.proofs.Common.{◌≡◌, ◌++◌}
use Rattle.scc_rules_walks.specs.Cells.{row}
use Rattle.scc_rules_walks.proofs.cells.row.Given as goal

abbrev pub invariant-loop-i : goal.invariant-loop-i
invariant-loop-i l = l.out.items ≡ l.initial.out.items ++ row l.i l.stride l.cell
