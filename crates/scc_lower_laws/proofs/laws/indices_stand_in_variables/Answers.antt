use Rattle.scc_lower_laws.proofs.Indices.{index-variable, index-temporary, index-extended, index-behind}
use Rattle.scc_lower_laws.proofs.laws.indices_stand_in_variables.Goals as goal

pub returns : goal.returns
returns c = record {
  variables = λ s width n m e c o v h t. index-variable s width n m e c o v h t;
  temporaries = λ s width n m e c o w h. index-temporary s width n m e c o w h;
  before = λ s width n m k e c d v h l p. index-extended s width n m k e c d v h l p;
  behind = λ s width n m k e c d v number l p h. index-behind s width n m k e c d v number l p h;
}
