use Rattle.std.proofs.Common.{◌+◌, length}
use Rattle.scc_svtree_order.proofs.Searching.{Searching, weight}
use Rattle.scc_svtree_order.proofs.reached.is_on_cycle.Given as goal

abbrev pub invariant-loop-j : goal.invariant-loop-j
invariant-loop-j l = Searching l.g l.k l.seen.items l.stack.items

abbrev pub decreases-loop-j : goal.decreases-loop-j
decreases-loop-j l = weight l.g l.seen.items + length l.stack.items
