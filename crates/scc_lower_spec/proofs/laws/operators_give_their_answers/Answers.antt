use Rattle.scc_lower_spec.proofs.Operators.{binary_gives}
use Rattle.scc_lower_spec.proofs.laws.operators_give_their_answers.Goals as goal

pub returns : goal.returns
returns c = λ wide width x o j k y z p text t u v a b d f h n e g m is. binary_gives wide width x o j k y z p text t u v a b d f h n e g m is
