use Rattle.scc_rules_laws.proofs.Writers.{writers_told}
use Rattle.scc_rules_laws.proofs.laws.two_writers_are_told_by_lists.Goals as goal

pub returns : goal.returns
returns c = writers_told
