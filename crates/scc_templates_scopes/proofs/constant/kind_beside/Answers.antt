use Rattle.scc_templates_scopes.proofs.Counted.{counts_as}
use Rattle.scc_templates_scopes.proofs.constant.kind_beside.Goals as goal

pub returns-clause-is : goal.returns-clause-is
returns-clause-is c = counts_as c.args.v c.args.other c.kind_beside.result c.kind_beside.ensures.counted c.kind_beside.ensures.own
