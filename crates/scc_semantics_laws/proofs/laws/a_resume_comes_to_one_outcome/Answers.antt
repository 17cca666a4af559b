use Rattle.scc_semantics_laws.proofs.Bound.{run-one}
use Rattle.scc_semantics_laws.proofs.Before.{run-behind}
use Rattle.scc_semantics_laws.proofs.Blind.{run-blind}
use Rattle.scc_semantics_laws.proofs.laws.a_resume_comes_to_one_outcome.Goals as goal

pub returns-clause-one : goal.returns-clause-one
returns-clause-one c = run-one

pub returns-clause-behind : goal.returns-clause-behind
returns-clause-behind c = run-behind

pub returns-clause-blind : goal.returns-clause-blind
returns-clause-blind c = λ places functions signals t n f h p. (run-blind places functions signals t n f h p).same
