use Rattle.scc_core_resolvable_laws.proofs.Kept.{named-unrolled}
use Rattle.scc_core_resolvable_laws.proofs.laws.unrolling_leaves_a_core_named.Goals as goal

pub returns : goal.returns
returns c = λ p named. named-unrolled p named
