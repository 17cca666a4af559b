use Rattle.scc_lower_expressions.proofs.Worded.{operated_has, alone_has}
use Rattle.scc_lower_expressions.proofs.laws.operators_answer_on_lowered_operands.Goals as goal

pub returns : goal.returns
returns c = record {
  two = λ wide width x o l r kind y z v out a b d e f g h i j k. operated_has wide width x o l.kind r.kind kind y z v l.of r.of out a b d e f g h i j k;
  one = λ wide width x o l kind y v out a d f g h i j. alone_has wide width x o l.kind kind y v l.of out a d f g h i j;
}
