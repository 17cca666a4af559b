use Rattle.scc_inline_laws.proofs.All.{inlined-same}
use Rattle.scc_inline_orderly_laws.proofs.Elaborated.{made-orderly, program-orderly}
use Rattle.scc_inline_orderly_laws.proofs.laws.what_is_elaborated_means_the_same.Goals as goal

pub returns : goal.returns
returns a many p d c constant made whole x e keeps = inlined-same p d c constant (made-orderly many p d made whole (program-orderly p d x)) e keeps
