use Rattle.scc_inline.proofs.Naming.{numbered_is}
use Rattle.scc_inline.proofs.laws.locals_are_numbered_one_by_one.Goals as goal

pub returns : goal.returns
returns c = numbered_is
