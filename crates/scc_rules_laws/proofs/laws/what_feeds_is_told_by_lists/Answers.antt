use Rattle.scc_rules_laws.proofs.Fed.{feeds_told}
use Rattle.scc_rules_laws.proofs.laws.what_feeds_is_told_by_lists.Goals as goal

pub returns : goal.returns
returns c = feeds_told
