use Rattle.std.proofs.Common.{◌≡◌, Some, map, take}
use Rattle.scc_pointers.specs.Resolved.{number_in}
use Rattle.scc_pointers.proofs.pass.renumbered_process.Given as goal

abbrev pub invariant-loop-cell : goal.invariant-loop-cell
invariant-loop-cell l = map Some l.senses ≡ map (number_in l.numbers) (take l.cell-index l.cell-items)
