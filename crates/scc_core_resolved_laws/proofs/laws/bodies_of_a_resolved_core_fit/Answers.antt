use Rattle.scc_core_resolved_laws.proofs.Parts.{fits, exits}
use Rattle.scc_core_resolved_laws.proofs.laws.bodies_of_a_resolved_core_fit.Goals as goal

pub returns-clause-fits : goal.returns-clause-fits
returns-clause-fits c p i q r g = fits p i q r g

pub returns-clause-exits : goal.returns-clause-exits
returns-clause-exits c p i q r g = exits p i q r g
