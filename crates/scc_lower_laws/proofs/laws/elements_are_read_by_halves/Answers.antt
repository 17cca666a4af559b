use Rattle.scc_lower_laws.proofs.Elements.{element-cell, span-one, span-halves, element-within}
use Rattle.scc_lower_laws.proofs.laws.elements_are_read_by_halves.Goals as goal

pub returns : goal.returns
returns c = record {
  cells = λ s width m w u h l number r o b. element-cell s width m w u h l number r o b;
  one = λ s width m w v vs d ds first low h l t e. span-one s width m w v vs d ds first low h l t e;
  halves = λ s width m w v vs d ds first low middle high h l t u below small p q. span-halves s width m w v vs d ds first low middle high h l t u below small p q;
  all = λ s width m w v vs d ds first high h l t below reach p. element-within s width m w v vs d ds first high h l t below reach p;
}
