use Rattle.std.proofs.Common.{take}
use Rattle.scc_blocks.specs.Declaring.{AreBefore}
use Rattle.scc_blocks.proofs.declare.behind.Given as goal

abbrev pub invariant-loop-at : goal.invariant-loop-at
invariant-loop-at l = AreBefore l.cells (take l.at-index l.locals) l.first
