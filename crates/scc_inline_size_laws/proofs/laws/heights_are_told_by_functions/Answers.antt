use Rattle.scc_inline_size_laws.proofs.Counting.{high}
use Rattle.scc_inline_size_laws.proofs.laws.heights_are_told_by_functions.Goals as goal

pub returns : goal.returns
returns c = λ m heights call h k. high m heights call h k
