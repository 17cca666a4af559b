use Rattle.scc_states_view.proofs.Statements.{plain_stands, test_stands, wait_stands}
use Rattle.scc_states_view.proofs.laws.statements_are_segments.Goals as goal

pub returns-clause-plain : goal.returns-clause-plain
returns-clause-plain c = plain_stands

pub returns-clause-test : goal.returns-clause-test
returns-clause-test c = test_stands

pub returns-clause-wait : goal.returns-clause-wait
returns-clause-wait c = wait_stands
