use Rattle.scc_inline_core_laws.proofs.CopiedCore.{resolvable}
use Rattle.scc_inline_core_laws.proofs.laws.a_copied_core_can_be_resolved.Goals as goal

pub returns : goal.returns
returns c = λ p d ord laid kinded home is. resolvable p d laid ord kinded home is
