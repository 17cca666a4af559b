use Rattle.scc_core_laws.proofs.Resolved.{in-time}
use Rattle.scc_core_laws.proofs.laws.a_resolved_core_is_in_time.Goals as goal

pub returns : goal.returns
returns c = λ home p is r none. in-time home is p r none
