use Rattle.scc_lower_expressions.proofs.Worded.{chosen_has}
use Rattle.scc_lower_expressions.proofs.laws.choices_answer_on_lowered_operands.Goals as goal

pub returns : goal.returns
returns c = λ wide width x t a b kind u y z out f g i h m l s. chosen_has wide width x t.kind a.kind b.kind kind u y z t.of a.of b.of out f g i h m l s
