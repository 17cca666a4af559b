use Rattle.scc_templates_scopes.proofs.Counted.{stands_beside}
use Rattle.scc_templates_scopes.proofs.constant.beside.Goals as goal

pub returns : goal.returns
returns c = stands_beside c.args.v c.beside.result c.args.other c.beside.ensures.counted c.beside.ensures.own c.beside.ensures.word
