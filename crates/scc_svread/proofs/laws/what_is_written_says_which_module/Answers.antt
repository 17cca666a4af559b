use Rattle.scc_svread_written.proofs.Modules.{back_module}
use Rattle.scc_svread.proofs.laws.what_is_written_says_which_module.Goals as goal

pub returns : goal.returns
returns c = back_module
