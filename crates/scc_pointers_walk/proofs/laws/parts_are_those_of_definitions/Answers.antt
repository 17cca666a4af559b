use Rattle.scc_pointers_walk.proofs.Locations.{as_name_is, member_is}
use Rattle.scc_pointers_walk.proofs.Patterns.{element_on_is}
use Rattle.scc_pointers_walk.proofs.laws.parts_are_those_of_definitions.Goals as goal

pub returns-clause-names : goal.returns-clause-names
returns-clause-names c = as_name_is

pub returns-clause-members : goal.returns-clause-members
returns-clause-members c = member_is

pub returns-clause-elements : goal.returns-clause-elements
returns-clause-elements c = element_on_is
