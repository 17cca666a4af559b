use Rattle.scc_inline_core_laws.proofs.CopiedCore.{copies-own}
use Rattle.scc_inline_core_laws.proofs.laws.copied_bodies_are_own.Goals as goal

pub returns : goal.returns
returns c = λ p d kinded. copies-own p d kinded
