use Rattle.scc_bits.proofs.Lowered.{keeps, answer_is, kinds, signs, divisor}
use Rattle.scc_bits.proofs.laws.operands_keep_answer.Goals as goal

pub returns-clause-answer : goal.returns-clause-answer
returns-clause-answer c = keeps

pub returns-clause-kind : goal.returns-clause-kind
returns-clause-kind c = answer_is

pub returns-clause-kinds : goal.returns-clause-kinds
returns-clause-kinds c = kinds

pub returns-clause-signs : goal.returns-clause-signs
returns-clause-signs c = signs

pub returns-clause-divisor : goal.returns-clause-divisor
returns-clause-divisor c = divisor
