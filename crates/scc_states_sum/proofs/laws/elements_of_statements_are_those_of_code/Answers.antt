use Rattle.scc_states_sum.proofs.Bodies.{all_paths, all_whole}
use Rattle.scc_states_sum.proofs.laws.elements_of_statements_are_those_of_code.Goals as goal

pub returns-clause-whole : goal.returns-clause-whole
returns-clause-whole c = λ cs known ss h. all_whole cs known h

pub returns-clause-live : goal.returns-clause-live
returns-clause-live c = λ cs known ss h. all_paths cs known h
