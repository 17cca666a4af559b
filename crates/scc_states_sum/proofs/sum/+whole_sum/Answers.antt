use Rattle.std.proofs.Common.{◌<◌, length, arith}
use Rattle.scc_states_sum.specs.Told.{numbers_in}
use Rattle.scc_states_sum.specs.Live.{statement_elements}
use Rattle.scc_states_sum.proofs.Counts.{one_further}
use Rattle.scc_states_sum.proofs.sum.+whole_sum.Goals as goal

pub each-loop-s-preserved : goal.each-loop-s-preserved
each-loop-s-preserved t c =
    let i : c.loop-s.s-index < length c.args.body.now = omega arith in
    one_further (statement_elements (numbers_in c.args.known)) c.args.body.now c.loop-s.s-index c.s-item.result i c.s-item.is
    c.loop-s.all c.whole.result c.plus-all.result c.loop-s.invariant c.whole.ensures c.plus-all.ensures
