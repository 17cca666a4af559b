use Rattle.std.proofs.Common.{◌<◌, length, arith}
use Rattle.scc_states_sum.specs.Told.{numbers_in}
use Rattle.scc_states_sum.specs.Live.{segment_statement}
use Rattle.scc_states_sum.proofs.Counts.{one_further}
use Rattle.scc_states_sum.proofs.sum.+segment_sum.Goals as goal

pub segment-loop-s-preserved : goal.segment-loop-s-preserved
segment-loop-s-preserved t c =
    let i : c.loop-s.s-index < length c.args.list.now = omega arith in
    one_further (segment_statement (numbers_in c.args.known)) c.args.list.now c.loop-s.s-index c.s-item.result i c.s-item.is
    c.loop-s.all c.segment_stmt.result c.plus-all.result c.loop-s.invariant c.segment_stmt.ensures c.plus-all.ensures
