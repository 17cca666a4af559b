use Rattle.std.proofs.Common.{◌+◌, ◌*◌}
use Rattle.scc_memory.proofs.opening.Opener.+opened.Given as goal

abbrev pub decreases-made : goal.decreases-made
decreases-made c = 2 * c.levels

abbrev pub decreases-leaf : goal.decreases-leaf
decreases-leaf c = 2 * c.levels + 1

abbrev pub decreases-over : goal.decreases-over
decreases-over c = 2 * c.levels + 1
