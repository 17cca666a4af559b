use Rattle.scc_blocks_steady_laws.proofs.Steady.{steady}
use Rattle.scc_blocks_steady_laws.proofs.laws.a_resolved_core_is_steady.Goals as goal

pub returns : goal.returns
returns c = λ p r core none. steady p core none r
