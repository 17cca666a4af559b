use Rattle.std.proofs.Common.{length}
use Rattle.scc_core_look.proofs.rows.+bounded.Given as goal

abbrev pub decreases-bounded : goal.decreases-bounded
decreases-bounded l = length l.parts.now
