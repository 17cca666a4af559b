use Rattle.scc_rules_laws.proofs.Shared.{sharers_told}
use Rattle.scc_rules_laws.proofs.laws.shared_variables_are_told_by_lists.Goals as goal

pub returns : goal.returns
returns c = sharers_told
