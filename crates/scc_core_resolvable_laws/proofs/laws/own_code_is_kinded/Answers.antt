use Rattle.scc_core_resolvable_laws.proofs.Kinded.{are-kinded}
use Rattle.scc_core_resolvable_laws.proofs.laws.own_code_is_kinded.Goals as goal

pub returns : goal.returns
returns c = λ p own. are-kinded p own
