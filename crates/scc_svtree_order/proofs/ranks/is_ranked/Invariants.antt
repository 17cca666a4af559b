use Rattle.std.proofs.Common.{◌<◌, ℕ}
use Rattle.scc_svtree_order.specs.Search.{IsAbove}
use Rattle.scc_svtree_order.proofs.ranks.is_ranked.Given as goal

abbrev pub invariant-loop-k : goal.invariant-loop-k
invariant-loop-k l = (i : ℕ) → i < l.k → IsAbove l.g l.rank i
