use Rattle.scc_core_resolved_laws.proofs.Inputs.{all-kept}
use Rattle.scc_core_resolved_laws.proofs.laws.a_resolved_core_keeps_what_is_fixed.Goals as goal

pub returns : goal.returns
returns c home p is r = all-kept home is p r
