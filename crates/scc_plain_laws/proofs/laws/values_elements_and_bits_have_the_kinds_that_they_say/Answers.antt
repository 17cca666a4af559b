use Rattle.scc_plain_laws.proofs.Named.{any_local}
use Rattle.scc_plain_laws.proofs.AnyLocal.{named-term, named-meant, typed-term, typed-loc, typed-meant}
use Rattle.scc_plain_laws.proofs.Meanings.{taken-is, indexed-is, followed-is, addressed-is}
use Rattle.scc_plain_laws.proofs.laws.values_elements_and_bits_have_the_kinds_that_they_say.Goals as goal

pub returns-clause-value : goal.returns-clause-value
returns-clause-value c = λ p m x t e. typed-term x.term (taken-is any_local p m x (named-meant m t) e)

pub returns-clause-element : goal.returns-clause-element
returns-clause-element c = λ p m i n t h e. typed-meant n (indexed-is any_local p m i n (named-meant m t) (named-term i.term h) e)

pub returns-clause-behind : goal.returns-clause-behind
returns-clause-behind c = λ p o m l t e. typed-loc l (followed-is any_local p o m l (named-meant m t) e)

pub returns-clause-address : goal.returns-clause-address
returns-clause-address c = λ p m n t e. typed-meant n (addressed-is any_local p m n (named-meant m t) e)
