use Rattle.scc_templates_scopes.proofs.Chained.{counts}
use Rattle.scc_templates_scopes.proofs.laws.chains_are_counted.Goals as goal

pub returns : goal.returns
returns c = counts
