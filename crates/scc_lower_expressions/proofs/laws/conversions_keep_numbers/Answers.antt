use Rattle.scc_lower_expressions.proofs.Worded.{converts_has}
use Rattle.scc_lower_expressions.proofs.laws.conversions_keep_numbers.Goals as goal

pub returns : goal.returns
returns c = λ wide width x from to a out y f h e. converts_has wide width x from to a out y f h e
