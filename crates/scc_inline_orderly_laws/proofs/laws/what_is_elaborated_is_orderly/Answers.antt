use Rattle.scc_inline_orderly_laws.proofs.Elaborated.{made-orderly}
use Rattle.scc_inline_orderly_laws.proofs.laws.what_is_elaborated_is_orderly.Goals as goal

pub returns : goal.returns
returns c many p d made whole x = made-orderly many p d made whole x
