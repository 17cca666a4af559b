use Rattle.scc_core_resolved_laws.proofs.Never.{never}
use Rattle.scc_core_resolved_laws.proofs.laws.a_resolved_core_is_never_stuck.Goals as goal

pub returns : goal.returns
returns c home p is r loops waits = never home is p r loops waits
