use Rattle.scc_inline_size_laws.proofs.Counting.{too_large_is}
use Rattle.scc_inline_size_laws.proofs.laws.too_large_is_told_by_functions.Goals as goal

pub returns : goal.returns
returns c = λ p heights sizes are. too_large_is p heights sizes are
