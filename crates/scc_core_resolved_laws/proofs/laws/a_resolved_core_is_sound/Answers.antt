use Rattle.scc_core_resolved_laws.proofs.Owned.{sound-core}
use Rattle.scc_core_resolved_laws.proofs.laws.a_resolved_core_is_sound.Goals as goal

pub returns : goal.returns
returns c home p is r = sound-core home is p r
