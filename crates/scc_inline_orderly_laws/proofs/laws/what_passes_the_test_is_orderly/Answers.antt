use Rattle.scc_inline_orderly_laws.proofs.Whole.{orderly}
use Rattle.scc_inline_orderly_laws.proofs.laws.what_passes_the_test_is_orderly.Goals as goal

pub returns : goal.returns
returns c p d x = orderly p d x
