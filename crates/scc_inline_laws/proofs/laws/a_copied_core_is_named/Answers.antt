use Rattle.scc_inline_laws.proofs.Naming.{is-named}
use Rattle.scc_inline_laws.proofs.laws.a_copied_core_is_named.Goals as goal

pub returns : goal.returns
returns c = λ p d ord. is-named p d ord
