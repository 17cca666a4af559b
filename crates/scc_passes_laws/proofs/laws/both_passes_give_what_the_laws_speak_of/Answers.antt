use Rattle.scc_passes_laws.proofs.Passed.{accepted, resolves}
use Rattle.scc_passes_laws.proofs.laws.both_passes_give_what_the_laws_speak_of.Goals as goal

pub returns-clause-accepted : goal.returns-clause-accepted
returns-clause-accepted c = accepted

pub returns-clause-resolved : goal.returns-clause-resolved
returns-clause-resolved c = resolves
