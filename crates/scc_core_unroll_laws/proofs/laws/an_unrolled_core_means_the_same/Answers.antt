use Rattle.scc_core_unroll_laws.proofs.Unroll.{same-unrolled}
use Rattle.scc_core_unroll_laws.proofs.laws.an_unrolled_core_means_the_same.Goals as goal

pub returns : goal.returns
returns c = λ home is_home p constant named kinded keeps. same-unrolled home is_home p constant named kinded keeps
