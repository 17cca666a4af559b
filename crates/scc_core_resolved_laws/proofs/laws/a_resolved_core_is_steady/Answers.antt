use Rattle.scc_core_resolved_laws.proofs.Inputs.{is-steady}
use Rattle.scc_core_resolved_laws.proofs.laws.a_resolved_core_is_steady.Goals as goal

pub returns : goal.returns
returns c home p is r = is-steady home is p r
