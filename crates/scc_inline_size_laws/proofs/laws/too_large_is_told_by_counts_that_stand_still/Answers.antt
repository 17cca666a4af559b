use Rattle.scc_inline_size_laws.proofs.Standing.{standing_too_large}
use Rattle.scc_inline_size_laws.proofs.laws.too_large_is_told_by_counts_that_stand_still.Goals as goal

pub returns : goal.returns
returns c = λ p heights sizes s. standing_too_large p heights sizes s
