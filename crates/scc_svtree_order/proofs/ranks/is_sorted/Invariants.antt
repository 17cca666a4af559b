use Rattle.std.proofs.Common.{◌<◌, ℕ}
use Rattle.scc_svtree_order.specs.Search.{IsUpTo}
use Rattle.scc_svtree_order.proofs.ranks.is_sorted.Given as goal

abbrev pub invariant-loop-k : goal.invariant-loop-k
invariant-loop-k l = (i : ℕ) → i < l.k → IsUpTo l.g l.rank i
