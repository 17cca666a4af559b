use Rattle.std.proofs.Common.{◌<◌, length, arith}
use Rattle.scc_core_look.proofs.Leaving.{goes_on}
use Rattle.scc_core_look.proofs.exits.+exits.Goals as goal

pub exits_stay-loop-s-preserved : goal.exits_stay-loop-s-preserved
exits_stay-loop-s-preserved t c =
    let h : c.loop-s.s-index < length c.args.list.now = omega arith in
    goes_on c.args.depth c.args.list.now c.loop-s.s-index c.s-item.result h c.s-item.is c.loop-s.stay c.statement_exits_stay.result c.both-stay.result c.loop-s.invariant c.statement_exits_stay.ensures c.both-stay.ensures
