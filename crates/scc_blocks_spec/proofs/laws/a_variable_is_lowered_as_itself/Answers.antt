use Rattle.scc_blocks_spec.proofs.Lowering.{term_is_lowered, code_is_lowered}
use Rattle.scc_blocks_spec.proofs.laws.a_variable_is_lowered_as_itself.Goals as goal

pub returns-clause-term : goal.returns-clause-term
returns-clause-term c = term_is_lowered

pub returns-clause-code : goal.returns-clause-code
returns-clause-code c = code_is_lowered
