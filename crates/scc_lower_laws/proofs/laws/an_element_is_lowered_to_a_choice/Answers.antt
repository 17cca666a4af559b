use Rattle.scc_lower_laws.proofs.WorkedElement.{chosen-lowers}
use Rattle.scc_lower_laws.proofs.laws.an_element_is_lowered_to_a_choice.Goals as goal

pub returns : goal.returns
returns c = chosen-lowers
