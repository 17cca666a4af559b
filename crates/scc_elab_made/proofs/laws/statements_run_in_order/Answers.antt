use Rattle.scc_elab_works.proofs.Leading.{stmt_leads}
use Rattle.scc_elab_made.proofs.laws.statements_run_in_order.Goals as goal

pub returns : goal.returns
returns c t make s x r n = (stmt_leads t make s x).first r n
