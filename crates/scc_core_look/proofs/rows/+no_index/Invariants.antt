use Rattle.std.proofs.Common.{length}
use Rattle.scc_core_look.proofs.rows.+no_index.Given as goal

abbrev pub decreases-no_index : goal.decreases-no_index
decreases-no_index l = length l.steps.now
