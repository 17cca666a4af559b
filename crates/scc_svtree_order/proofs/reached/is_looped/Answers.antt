use Rattle.scc_svtree_order.proofs.Searching.{free_at}
use Rattle.scc_svtree_order.proofs.reached.is_looped.Goals as goal

pub returns-then-all_below : goal.returns-then-all_below
returns-then-all_below c = free_at c.args.g.now c.args.rank.now c.args.k c.rank_of.result c.row.result.now (c.requires.sorted c.if-sorted.true) c.row.ensures.row c.rank_of.ensures (c.all_below.ensures c.if-all_below.true)
