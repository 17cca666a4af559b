use Rattle.std.proofs.Common.{List, ◌++◌, map, take}
use Rattle.scc_core.specs.declared.places.NameStep.{NameStep}
use Rattle.scc_core.specs.declared.places.NameStep.TheVariants as step
use Rattle.scc_core.specs.Tables.{Entered, IsTree, Reaches}
use Rattle.scc_core.proofs.places.Places.enter_indices.Given as goal

abbrev pub invariant-loop-i : goal.invariant-loop-i
invariant-loop-i l = (ss : List NameStep) → IsTree l.initial.self → Reaches l.initial.self ss l.initial.at → Entered l.initial.self l.self (ss ++ map step.Index (take l.i-index l.indices)) l.at
