use Rattle.std.proofs.Common.{◌≡◌, ◌<◌, length, min, arith}
use Rattle.scc_drive_sim.specs.Segments.{most, segment_statements}
use Rattle.scc_drive_sim.proofs.Sums.{one_further}
use Rattle.scc_drive_sim.proofs.bounds.all_sizes.Goals as goal

pub loop-segment-preserved : goal.loop-segment-preserved
loop-segment-preserved c =
    let h : c.loop-segment.segment-index < length c.args.segments.now = omega arith in
    let k : c.segment_size.result ≡ min (segment_statements c.segment-item.result) most = cc in
    one_further segment_statements most c.args.segments.now c.loop-segment.segment-index c.segment-item.result h c.segment-item.is c.loop-segment.size
    c.segment_size.result c.saturating_add-size.result c.loop-segment.invariant k c.saturating_add-size.ensures
