use Rattle.scc_blocks_spec.proofs.Generated.{one_is_handed_on}
use Rattle.scc_blocks_spec.proofs.laws.the_line_of_a_generated_design.Goals as goal

pub returns-clause-ran : goal.returns-clause-ran
returns-clause-ran c n p m line h = (h.observed, h.ran)

pub returns-clause-passes : goal.returns-clause-passes
returns-clause-passes c = one_is_handed_on
