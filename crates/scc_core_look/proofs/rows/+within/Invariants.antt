use Rattle.std.proofs.Common.{length}
use Rattle.scc_core_look.proofs.rows.+within.Given as goal

abbrev pub decreases-within : goal.decreases-within
decreases-within l = length l.steps.now
