use Rattle.std.proofs.Common.{length}
use Rattle.scc_svrun.proofs.inputs.+are_handed.Given as goal

abbrev pub decreases-are_handed : goal.decreases-are_handed
decreases-are_handed l = length l.vars.now
