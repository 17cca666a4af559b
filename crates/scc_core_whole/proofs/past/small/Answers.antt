use Rattle.scc_core.proofs.Numbers.{small_is}
use Rattle.scc_core_whole.proofs.past.small.Goals as goal

pub returns : goal.returns
returns c = small_is c.small.result c.args.v c.small.ensures.some c.small.ensures.is
