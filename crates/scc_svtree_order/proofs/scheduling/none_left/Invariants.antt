use Rattle.std.proofs.Common.{◌≡◌, ◌<◌, ℕ, true}
use Rattle.scc_svtree_order.specs.Search.{is_seen}
use Rattle.scc_svtree_order.proofs.scheduling.none_left.Given as goal

abbrev pub invariant-loop-k : goal.invariant-loop-k
invariant-loop-k l = (k : ℕ) → k < l.k → is_seen l.done k ≡ true
