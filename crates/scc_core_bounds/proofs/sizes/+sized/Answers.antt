use Rattle.std.proofs.Common.{◌<◌, length, arith}
use Rattle.scc_core_bounds.proofs.Sized.{goes_on}
use Rattle.scc_core_bounds.proofs.sizes.+sized.Goals as goal

pub size_of-loop-s-preserved : goal.size_of-loop-s-preserved
size_of-loop-s-preserved t c =
    let h : c.loop-s.s-index < length c.args.list.now = omega arith in
    goes_on c.args.list.now c.loop-s.s-index c.s-item.result h c.s-item.is c.loop-s.size c.size_of_one.result c.beside-size.result c.loop-s.invariant c.size_of_one.ensures c.beside-size.ensures
