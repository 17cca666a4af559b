use Rattle.scc_trace.proofs.Back.{reads_back}
use Rattle.scc_trace.proofs.laws.a_written_stimulus_reads_back.Goals as goal

pub returns : goal.returns
returns c = reads_back
