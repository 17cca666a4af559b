use Rattle.scc_lower_laws.proofs.Rules.{literal, convert}
use Rattle.scc_lower_laws.proofs.laws.literals_and_conversions_are_lowered.Goals as goal

pub returns : goal.returns
returns c = record {
  literals = λ s width n p k w l. literal s width n p k w l;
  conversions = λ s width n m p k e c o h. convert s width n m p k e c o h;
}
