use Rattle.std.proofs.Common.{length}
use Rattle.scc_core_look.proofs.rows.Rows.+row_under.Given as goal

abbrev pub decreases-row_under : goal.decreases-row_under
decreases-row_under l = length l.parts.now
