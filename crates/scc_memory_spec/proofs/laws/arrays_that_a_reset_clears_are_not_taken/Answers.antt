use Rattle.scc_memory_spec.proofs.Taken.{cleared_is_not_taken}
use Rattle.scc_memory_spec.proofs.laws.arrays_that_a_reset_clears_are_not_taken.Goals as goal

pub returns : goal.returns
returns c = cleared_is_not_taken
