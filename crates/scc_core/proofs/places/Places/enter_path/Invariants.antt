use Rattle.std.proofs.Common.{map, take}
use Rattle.scc_core.specs.Names.{step_of}
use Rattle.scc_core.specs.Tables.{Entered, IsTree}
use Rattle.scc_core.proofs.places.Places.enter_path.Given as goal

abbrev pub invariant-loop-part : goal.invariant-loop-part
invariant-loop-part l = IsTree l.initial.self → Entered l.initial.self l.self (map step_of (take l.part-index l.path)) l.at
