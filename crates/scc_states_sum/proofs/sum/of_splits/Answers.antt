use Rattle.std.proofs.Common.{◌<◌, length, arith}
use Rattle.scc_states_sum.specs.Told.{numbers_in}
use Rattle.scc_states_sum.specs.Live.{split_elements}
use Rattle.scc_states_sum.proofs.Counts.{one_further}
use Rattle.scc_states_sum.proofs.sum.of_splits.Goals as goal

pub loop-split-preserved : goal.loop-split-preserved
loop-split-preserved c =
    let i : c.loop-split.split-index < length c.args.splits.now = omega arith in
    one_further (split_elements (numbers_in c.args.known)) c.args.splits.now c.loop-split.split-index c.split-item.result i c.split-item.is
    c.loop-split.all c.of_split.result c.plus-all.result c.loop-split.invariant c.of_split.ensures c.plus-all.ensures
