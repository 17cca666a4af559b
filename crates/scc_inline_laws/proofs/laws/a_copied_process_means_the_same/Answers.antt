use Rattle.scc_inline_process_laws.proofs.Whole.{process-same}
use Rattle.scc_inline_laws.proofs.laws.a_copied_process_means_the_same.Goals as goal

pub returns : goal.returns
returns c p d constant i q ready = process-same p d constant i q ready
