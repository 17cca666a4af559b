use Rattle.scc_core_pass_laws.proofs.Whole.{law}
use Rattle.scc_core_pass_laws.proofs.laws.resolving_keeps_the_meaning.Goals as goal

pub returns : goal.returns
returns c = λ p new constant named able made. law p new constant named able made
