use Rattle.scc_pointers_walk.proofs.Leading.{led_is, pointed_is}
use Rattle.scc_pointers_walk.proofs.laws.pointers_lead_as_in_definitions.Goals as goal

pub returns-clause-targets : goal.returns-clause-targets
returns-clause-targets c = led_is

pub returns-clause-pointed : goal.returns-clause-pointed
returns-clause-pointed c = pointed_is
