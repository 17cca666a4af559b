use Rattle.scc_core.proofs.Numbers.{stored_is}
use Rattle.scc_core.proofs.statics.stored.Goals as goal

pub returns : goal.returns
returns c = stored_is c.stored.result c.args.kind c.args.of c.stored.ensures.some c.stored.ensures.is c.stored.ensures.only
