use Rattle.std.proofs.Common.{sym}
use Rattle.scc_inline.proofs.Beginning.{top_is}
use Rattle.scc_inline.proofs.process.top_of.Goals as goal

pub returns-in-Some : goal.returns-in-Some
returns-in-Some c = top_is c.args.p.now c.in-Some.class.now (sym c.in-Some.ensures.element)
