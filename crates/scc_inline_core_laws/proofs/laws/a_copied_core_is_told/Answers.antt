use Rattle.scc_inline_core_laws.proofs.CopiedCore.{told}
use Rattle.scc_inline_core_laws.proofs.laws.a_copied_core_is_told.Goals as goal

pub returns : goal.returns
returns c = λ p d ord laid. told p d laid ord
