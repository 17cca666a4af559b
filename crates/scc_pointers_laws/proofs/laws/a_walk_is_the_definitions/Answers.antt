use Rattle.scc_pointers_laws.proofs.Walks.{expr_is, left_agrees_is}
use Rattle.scc_pointers_laws.proofs.laws.a_walk_is_the_definitions.Goals as goal

pub returns-clause-locations : goal.returns-clause-locations
returns-clause-locations c = λ r k l soft w. left_agrees_is r k w soft

pub returns-clause-expressions : goal.returns-clause-expressions
returns-clause-expressions c = λ r k e w. expr_is r k w
