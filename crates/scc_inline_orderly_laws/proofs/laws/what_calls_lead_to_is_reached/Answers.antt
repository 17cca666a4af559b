use Rattle.scc_inline_orderly_laws.proofs.Closed.{reached-closed, reached-itself}
use Rattle.scc_inline_orderly_laws.proofs.laws.what_calls_lead_to_is_reached.Goals as goal

pub returns-clause-itself : goal.returns-clause-itself
returns-clause-itself c = reached-itself

pub returns-clause-closed : goal.returns-clause-closed
returns-clause-closed c = reached-closed
