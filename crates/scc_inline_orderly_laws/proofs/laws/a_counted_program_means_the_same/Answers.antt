use Rattle.scc_inline_orderly_laws.proofs.Counted.{counted-same}
use Rattle.scc_inline_orderly_laws.proofs.laws.a_counted_program_means_the_same.Goals as goal

pub returns : goal.returns
returns c constant = counted-same constant
