use Rattle.scc_lower_spec.proofs.Operators.{unary_gives, plus_gives}
use Rattle.scc_lower_spec.proofs.laws.operators_of_one_operand_give_their_answers.Goals as goal

pub returns : goal.returns
returns c = record {
  other = λ wide width x o j y p text t v a f n e b g is. unary_gives wide width x o j y p text t v a f n e b g is;
  plus = λ wide width x j y p t v a f n e g is. plus_gives wide width x j y p t v a f n e g is;
}
