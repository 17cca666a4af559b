use Rattle.scc_pointers_walk.proofs.Tabled.{looked_is}
use Rattle.scc_pointers_walk.proofs.laws.whole_locations_are_those_of_definitions.Goals as goal

pub returns : goal.returns
returns c = λ r l t. looked_is r t l
