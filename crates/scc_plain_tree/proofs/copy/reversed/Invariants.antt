use Rattle.std.proofs.Common.{length}
use Rattle.scc_plain_tree.proofs.copy.reversed.Given as goal

abbrev pub decreases-loop-x : goal.decreases-loop-x
decreases-loop-x g l = length l.back
