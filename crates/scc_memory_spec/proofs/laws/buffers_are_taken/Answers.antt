use Rattle.scc_memory_spec.proofs.Taken.{buffer_is_taken}
use Rattle.scc_memory_spec.proofs.laws.buffers_are_taken.Goals as goal

pub returns : goal.returns
returns c = buffer_is_taken
