use Rattle.scc_rules_laws.proofs.Missed.{latches_told}
use Rattle.scc_rules_laws.proofs.laws.latches_are_told_by_lists.Goals as goal

pub returns : goal.returns
returns c = latches_told
