use Rattle.std.proofs.Common.{length}
use Rattle.scc_core_look.proofs.rows.+goes_past.Given as goal

abbrev pub decreases-goes_past : goal.decreases-goes_past
decreases-goes_past l = length l.parts.now
