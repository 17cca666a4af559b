use Rattle.scc_core_unroll_laws.proofs.Back.{law}
use Rattle.scc_core_unroll_laws.proofs.laws.unrolling_keeps_the_meaning.Goals as goal

pub returns : goal.returns
returns c = λ p constant named kinded. law p constant named kinded
