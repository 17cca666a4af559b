use Rattle.std.proofs.Common.{◌≡◌, min, take}
use Rattle.scc_pointers.specs.Resolved.{gone, new_numbers}
use Rattle.scc_pointers.proofs.Numbering.{stays}
use Rattle.scc_pointers.proofs.pass.numbers_of.Given as goal

abbrev pub invariant-loop-cell : goal.invariant-loop-cell
invariant-loop-cell l = (l.numbers.items ≡ new_numbers 0 (take l.cell-index l.cells)) × (l.next ≡ min (stays (take l.cell-index l.cells)) gone)
