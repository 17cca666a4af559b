use Rattle.scc_inline_size_laws.proofs.Counting.{long}
use Rattle.scc_inline_size_laws.proofs.laws.sizes_are_told_by_functions.Goals as goal

pub returns : goal.returns
returns c = λ m heights sizes call h k. long m heights sizes call h k
