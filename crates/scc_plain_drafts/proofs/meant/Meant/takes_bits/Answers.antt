use Rattle.std.specs.Prelude.{not}
use Rattle.std.proofs.Common.{ap}
use Rattle.scc_plain_drafts.proofs.meant.Meant.takes_bits.Goals as goal

pub returns-in-Loc : goal.returns-in-Loc
returns-in-Loc c = λ n. rw c.in-Loc.is (ap not (c.is_all.ensures n))
