use Rattle.scc_plain_laws.proofs.Named.{any_local}
use Rattle.scc_plain_laws.proofs.AnyLocal.{all-named, named-term, typed-term}
use Rattle.scc_plain_laws.proofs.Drafted.{operate-is, operate-one-is, cast-is, choose-is, concat-is}
use Rattle.scc_plain_laws.proofs.laws.operators_have_the_kinds_that_they_say.Goals as goal

pub returns-clause-two : goal.returns-clause-two
returns-clause-two c = λ p at o a b x s t e. typed-term x.term (operate-is any_local p at o a b x (named-term a.term s) (named-term b.term t) e)

pub returns-clause-one : goal.returns-clause-one
returns-clause-one c = λ p o a x t e. typed-term x.term (operate-one-is any_local p o a x (named-term a.term t) e)

pub returns-clause-cast : goal.returns-clause-cast
returns-clause-cast c = λ p k a x t e. typed-term x.term (cast-is any_local p k a x (named-term a.term t) e)

pub returns-clause-choice : goal.returns-clause-choice
returns-clause-choice c = λ p n a b x s t u e. typed-term x.term (choose-is any_local p n a b x (named-term n.term s) (named-term a.term t) (named-term b.term u) e)

pub returns-clause-joined : goal.returns-clause-joined
returns-clause-joined c = λ p xs x t e. typed-term x.term (concat-is any_local p xs x (all-named xs t) e)
