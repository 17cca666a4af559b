use Rattle.scc_inline_laws.proofs.All.{inlined-same}
use Rattle.scc_inline_orderly_laws.proofs.Whole.{orderly}
use Rattle.scc_inline_orderly_laws.proofs.laws.what_passes_the_test_means_the_same.Goals as goal

pub returns : goal.returns
returns a p d c constant x e keeps = inlined-same p d c constant (orderly p d x) e keeps
