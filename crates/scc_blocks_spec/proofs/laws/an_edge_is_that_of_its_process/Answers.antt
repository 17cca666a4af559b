use Rattle.scc_blocks_spec.proofs.Edged.{at_its_own_clock, at_no_other}
use Rattle.scc_blocks_spec.proofs.laws.an_edge_is_that_of_its_process.Goals as goal

pub returns-clause-own : goal.returns-clause-own
returns-clause-own c = at_its_own_clock

pub returns-clause-other : goal.returns-clause-other
returns-clause-other c = at_no_other
