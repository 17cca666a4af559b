use Rattle.scc_core_resolved_laws.proofs.Inputs.{stay-proper}
use Rattle.scc_core_resolved_laws.proofs.laws.words_of_a_resolved_core_stay_proper.Goals as goal

pub returns : goal.returns
returns c home p i q signals f h is r g k = stay-proper home is p r i q signals f h g k
