use Rattle.scc_core_resolvable_laws.proofs.Kept.{all-unrolled}
use Rattle.scc_core_resolvable_laws.proofs.laws.unrolling_leaves_a_core_resolvable.Goals as goal

pub returns : goal.returns
returns c = λ home p able. all-unrolled p home able
