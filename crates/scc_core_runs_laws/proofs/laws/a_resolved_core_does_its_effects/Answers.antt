use Rattle.scc_core_runs_laws.proofs.Done.{does}
use Rattle.scc_core_runs_laws.proofs.laws.a_resolved_core_does_its_effects.Goals as goal

pub returns : goal.returns
returns c = λ home p is r loops waits bounds enough. does home is p r loops waits bounds enough
