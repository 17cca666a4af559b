use Rattle.std.proofs.Common.{arith}
use Rattle.scc_plain_drafts.proofs.Joined.{whole_is}
use Rattle.scc_plain_drafts.proofs.join.whole.Goals as goal

pub returns : goal.returns
returns c = λ ds h. whole_is c.args.place c.args.kind c.args.parts c.args.known ds c.made.result (omega arith) h c.made.ensures
