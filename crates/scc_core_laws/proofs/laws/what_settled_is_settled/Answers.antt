use Rattle.scc_core_laws.proofs.Resolved.{settled-there, settled-soon, settled-once}
use Rattle.scc_core_laws.proofs.laws.what_settled_is_settled.Goals as goal

pub returns-clause-settled : goal.returns-clause-settled
returns-clause-settled c = λ home p is r none s g tied. settled-there home is p r none s g tied

pub returns-clause-soon : goal.returns-clause-soon
returns-clause-soon c = λ home p is r none s g tied. settled-soon home is p r none s g tied

pub returns-clause-one : goal.returns-clause-one
returns-clause-one c = λ home p is r none g h known known' settled settled' inputs. settled-once home is p r none g h known known' settled settled' inputs
