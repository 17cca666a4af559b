use Rattle.scc_states_sum.proofs.Measuring.{tells}
use Rattle.scc_states_sum.proofs.laws.elements_are_those_of_patterns.Goals as goal

pub returns : goal.returns
returns c = λ cs known e h. tells cs known h
