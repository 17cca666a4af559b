use Rattle.scc_pointers_walk.proofs.Patterns.{chosen_is, open_is}
use Rattle.scc_pointers_walk.proofs.laws.open_locations_are_those_of_definitions.Goals as goal

pub returns-clause-chosen : goal.returns-clause-chosen
returns-clause-chosen c = chosen_is

pub returns-clause-some : goal.returns-clause-some
returns-clause-some c = open_is
