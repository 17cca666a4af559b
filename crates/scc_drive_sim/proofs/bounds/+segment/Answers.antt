use Rattle.std.proofs.Common.{◌<◌, length, arith}
use Rattle.scc_drive_sim.specs.Segments.{most, statement_statements}
use Rattle.scc_drive_sim.proofs.Sums.{one_further}
use Rattle.scc_drive_sim.proofs.bounds.+segment.Goals as goal

pub segment_size-loop-s-preserved : goal.segment_size-loop-s-preserved
segment_size-loop-s-preserved t c =
    let h : c.loop-s.s-index < length c.args.list.now = omega arith in
    one_further statement_statements most c.args.list.now c.loop-s.s-index c.s-item.result h c.s-item.is c.loop-s.size c.segment_size_of_one.result
    c.saturating_add-size.result c.loop-s.invariant c.segment_size_of_one.ensures c.saturating_add-size.ensures
