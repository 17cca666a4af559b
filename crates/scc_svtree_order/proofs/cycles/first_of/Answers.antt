use Rattle.scc_svtree_order.proofs.Feeding.{ranked_at, found_at}
use Rattle.scc_svtree_order.proofs.cycles.first_of.Goals as goal

pub returns-then-is_ranked : goal.returns-then-is_ranked
returns-then-is_ranked c = ranked_at c.args.blocks.now c.in_ok-g.g c.as_slice.result.now c.in_ok-g.ensures (c.is_ranked.ensures c.if-is_ranked.true)

pub returns : goal.returns
returns c = found_at c.args.blocks.now c.in_ok-g.g c.first_row.result c.in_ok-g.ensures c.first_row.ensures
