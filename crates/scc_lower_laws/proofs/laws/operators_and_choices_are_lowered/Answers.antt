use Rattle.scc_lower_laws.proofs.Rules.{alone, two, choice}
use Rattle.scc_lower_laws.proofs.laws.operators_and_choices_are_lowered.Goals as goal

pub returns : goal.returns
returns c = record {
  one = λ s width n m p k o e c r out v w q made h. alone s width n m p k o e c r out v w q made h;
  two = λ s width n m p k o e f c r q out v u w i made h g. two s width n m p k o e f c r q out v u w i made h g;
  choices = λ s width n m p k t e f c u r q h g i. choice s width n m p k t e f c u r q h g i;
}
