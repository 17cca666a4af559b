use Rattle.std.proofs.Common.{◌≡◌, ◌<◌, length, ap, ◌∙◌, arith}
use Rattle.scc_states_sum.specs.Told.{numbers_in}
use Rattle.scc_states_sum.specs.Elements.{cut}
use Rattle.scc_states_sum.specs.Live.{segment_elements}
use Rattle.scc_states_sum.proofs.Counts.{one_further}
use Rattle.scc_states_sum.proofs.sum.segments.Goals as goal

pub loop-list-preserved : goal.loop-list-preserved
loop-list-preserved c =
    let i : c.loop-list.list-index < length c.args.lists.now = omega arith in
    let k : c.segment.result ≡ cut (segment_elements (numbers_in c.args.known) c.list-item.result) =
    c.segment.ensures ∙ ap (λ l. cut (segment_elements (numbers_in c.args.known) l)) c.as_slice.ensures.elements in
    one_further (segment_elements (numbers_in c.args.known)) c.args.lists.now c.loop-list.list-index c.list-item.result i c.list-item.is
    c.loop-list.all c.segment.result c.plus-all.result c.loop-list.invariant k c.plus-all.ensures
