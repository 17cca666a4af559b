use Rattle.std.proofs.Common.{length}
use Rattle.scc_core_look.proofs.rows.Rows.+covered.Given as goal

abbrev pub decreases-covered : goal.decreases-covered
decreases-covered l = length l.steps.now
