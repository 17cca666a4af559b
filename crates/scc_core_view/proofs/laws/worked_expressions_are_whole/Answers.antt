use Rattle.scc_core_view.proofs.StaticWorked.{bit_is_whole, sum_is_whole, past_is_whole}
use Rattle.scc_core_view.proofs.laws.worked_expressions_are_whole.Goals as goal

pub returns-clause-bit : goal.returns-clause-bit
returns-clause-bit c = bit_is_whole

pub returns-clause-sum : goal.returns-clause-sum
returns-clause-sum c = sum_is_whole

pub returns-clause-past : goal.returns-clause-past
returns-clause-past c = past_is_whole
