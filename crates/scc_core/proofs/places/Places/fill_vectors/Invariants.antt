use Rattle.std.proofs.Common.{List, [], take}
use Rattle.scc_core.specs.declared.program.Cell.{Cell}
use Rattle.scc_core.specs.Tables.{IsTable}
use Rattle.scc_core.proofs.places.Places.fill_vectors.Given as goal

abbrev pub invariant-loop-v : goal.invariant-loop-v
invariant-loop-v l = (cells : List Cell) → IsTable l.initial.self cells [] → IsTable l.self cells (take l.v-index l.vectors)
