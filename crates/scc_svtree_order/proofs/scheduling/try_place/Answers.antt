use Rattle.std.proofs.Common.{◌<◌, length, arith}
use Rattle.scc_svtree_order.proofs.Placing.{guess_turns}
use Rattle.scc_svtree_order.proofs.scheduling.try_place.Goals as goal

pub returns : goal.returns
returns c = λ old before l s.
    guess_turns c.args.g.now c.args.k old c.args.done.now.items c.place.new.done.items before c.args.list.now.items c.place.new.list.items s l
    (let a = c.if-k-len.false in let b = c.len.ensures.length in omega (arith, a, b)) c.in_ok-place.ensures.done c.in_ok-place.ensures.list
