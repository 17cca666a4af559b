use Rattle.scc_semantics.proofs.HandedOn.{same-as-itself, any-order, ends-soon}
use Rattle.scc_semantics.proofs.laws.a_design_at_one_clock_shows_the_same.Goals as goal

pub returns-clause-same : goal.returns-clause-same
returns-clause-same c = same-as-itself

pub returns-clause-order : goal.returns-clause-order
returns-clause-order c = any-order

pub returns-clause-soon : goal.returns-clause-soon
returns-clause-soon c = ends-soon
