use Rattle.scc_core_effect_laws.proofs.Told.{obeys}
use Rattle.scc_core_laws.proofs.laws.unbroken_rules_are_obeyed.Goals as goal

pub returns : goal.returns
returns c = obeys
