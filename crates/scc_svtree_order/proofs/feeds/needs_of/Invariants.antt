use Rattle.std.proofs.Common.{◌≡◌, ◌++◌, drop}
use Rattle.scc_svtree_order.specs.Fed.{needs_of}
use Rattle.scc_svtree_order.proofs.feeds.needs_of.Given as goal

abbrev pub invariant-loop-v : goal.invariant-loop-v
invariant-loop-v l = l.found ++ needs_of l.owners l.k (drop l.v-index l.list) ≡ needs_of l.owners l.k l.list
