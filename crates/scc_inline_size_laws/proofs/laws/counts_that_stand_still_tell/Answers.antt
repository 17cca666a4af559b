use Rattle.scc_inline_size_laws.proofs.Standing.{standing_comes}
use Rattle.scc_inline_size_laws.proofs.laws.counts_that_stand_still_tell.Goals as goal

pub returns : goal.returns
returns c = λ p heights sizes s. standing_comes p heights sizes s
