use Rattle.scc_core.proofs.Numbers.{valued_is}
use Rattle.scc_core.proofs.statics.numbered.Goals as goal

pub returns : goal.returns
returns c = valued_is c.of.result c.args.kind c.args.word.bits c.of.ensures.some c.of.ensures.is c.of.ensures.only
