use Rattle.std.proofs.Common.{◌≡◌, ◌++◌, drop, length}
use Rattle.scc_svtree_order.specs.Fed.{needs_from}
use Rattle.scc_svtree_order.proofs.feeds.graph_of.Given as goal

abbrev pub invariant-loop-b : goal.invariant-loop-b
invariant-loop-b l = l.g ++ needs_from l.owners (length l.g) (drop l.b-index l.blocks) ≡ needs_from l.owners 0 l.blocks
