use Rattle.scc_pointers_walk.proofs.Sized.{element_is, size_of_is}
use Rattle.scc_pointers_walk.proofs.laws.sizes_are_those_of_definitions.Goals as goal

pub returns-clause-sizes : goal.returns-clause-sizes
returns-clause-sizes c = size_of_is

pub returns-clause-elements : goal.returns-clause-elements
returns-clause-elements c = element_is
