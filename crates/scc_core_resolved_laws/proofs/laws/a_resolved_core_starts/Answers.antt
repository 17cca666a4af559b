use Rattle.scc_core_resolved_laws.proofs.Starting.{start}
use Rattle.scc_core_resolved_laws.proofs.laws.a_resolved_core_starts.Goals as goal

pub returns : goal.returns
returns c home p is r = start home is p r
