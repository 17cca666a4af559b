use Rattle.scc_lower_laws.proofs.Rules.{extended, behind}
use Rattle.scc_lower_laws.proofs.laws.lowered_expressions_stand_one_behind_the_other.Goals as goal

pub returns : goal.returns
returns c = record {
  before = λ s width n m k e c d o h l p. extended s width n m k e c d o h l p;
  behind = λ s width n m k e c d o number l p h. behind s width n m k e c d o number l p h;
}
