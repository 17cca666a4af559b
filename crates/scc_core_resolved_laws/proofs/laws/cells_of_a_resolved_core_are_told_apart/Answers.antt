use Rattle.scc_core_resolved_laws.proofs.Apart.{tells-apart}
use Rattle.scc_core_resolved_laws.proofs.laws.cells_of_a_resolved_core_are_told_apart.Goals as goal

pub returns : goal.returns
returns c home p i q is r g = tells-apart home is p r i q g
