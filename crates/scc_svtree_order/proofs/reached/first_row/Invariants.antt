use Rattle.std.proofs.Common.{◌<◌, ℕ}
use Rattle.scc_svtree_order.specs.Search.{IsFree}
use Rattle.scc_svtree_order.proofs.reached.first_row.Given as goal

abbrev pub invariant-loop-k : goal.invariant-loop-k
invariant-loop-k l = (i : ℕ) → i < l.k → IsFree l.g i
