use Rattle.std.proofs.Common.{length}
use Rattle.scc_core_look.proofs.rows.Rows.+row_behind.Given as goal

abbrev pub decreases-row_behind : goal.decreases-row_behind
decreases-row_behind l = length l.steps.now
