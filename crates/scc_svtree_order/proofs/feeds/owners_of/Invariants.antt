use Rattle.std.proofs.Common.{◌≡◌, ◌≤◌, drop}
use Rattle.scc_svtree_order.specs.Fed.{owned_from, owners_of}
use Rattle.scc_svtree_order.proofs.feeds.owners_of.Given as goal

abbrev pub invariant-loop-b : goal.invariant-loop-b
invariant-loop-b l = (owned_from l.k (drop l.b-index l.blocks) l.owners ≡ owners_of l.blocks) × (l.k ≤ l.b-index)
