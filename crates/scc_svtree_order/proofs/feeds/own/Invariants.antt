use Rattle.std.proofs.Common.{◌≡◌, drop}
use Rattle.scc_svtree_order.specs.Fed.{owned_by}
use Rattle.scc_svtree_order.proofs.feeds.own.Given as goal

abbrev pub invariant-loop-v : goal.invariant-loop-v
invariant-loop-v l = owned_by l.k (drop l.v-index l.list) l.owners ≡ owned_by l.k l.list l.initial.owners
