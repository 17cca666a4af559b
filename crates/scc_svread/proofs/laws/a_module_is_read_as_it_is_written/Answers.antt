use Rattle.scc_svread_written.proofs.Modules.{reads_module}
use Rattle.scc_svread.proofs.laws.a_module_is_read_as_it_is_written.Goals as goal

pub returns : goal.returns
returns c = reads_module
