use Rattle.scc_svread_written.proofs.Modules.{one_module}
use Rattle.scc_svread.proofs.laws.a_text_is_one_module.Goals as goal

pub returns : goal.returns
returns c = one_module
