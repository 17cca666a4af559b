use Rattle.std.proofs.Common.{◌≡◌, ◌<◌, length, arith}
use Rattle.scc_svtree_order.proofs.Placing.{sweep_turns}
use Rattle.scc_svtree_order.proofs.scheduling.sweep.Goals as goal

pub loop-k-preserved : goal.loop-k-preserved
loop-k-preserved c =
    sweep_turns c.args.g.now c.loop-k.k c.args.done.now.items c.loop-k.done.items c.place.new.done.items c.args.list.now.items c.loop-k.list.items c.place.new.list.items
    c.loop-k.invariant c.requires (let a = c.loop-k-test.true in let b = c.len-k-end.ensures.length in omega (arith, a, b)) c.in_ok-place.ensures.done c.in_ok-place.ensures.list
