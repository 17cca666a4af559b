use Rattle.std.proofs.Common.{◌<◌, sym, subst, map, length, arith}
use Rattle.scc_elab_grown.specs.Grown.{grown_of}
use Rattle.scc_elab_grown.specs.Records.{record_of}
use Rattle.scc_elab_after.specs.Clocks.{Knows}
use Rattle.scc_elab_after.proofs.Walking.{walk_stops}
use Rattle.scc_elab_after.proofs.all.check_each.Goals as goal

pub returns-in-Err : goal.returns-in-Err
returns-in-Err c =
    let h : c.loop-r.r-index < length c.args.list.now = omega arith in
    walk_stops c.args.many (grown_of c.args.g.now) c.args.firsts.now.items c.loop-r.firsts.items (map record_of c.args.list.now) c.args.list.now c.loop-r.r-index c.r-item.result h c.r-item.is c.loop-r.invariant c.in-Err.stop
    (λ before k. c.in-Err.ensures {u = tt} before (subst (Knows c.args.many before) (sym c.as_slice.ensures.value) k))
