use Rattle.std.proofs.Common.{ap, ◌∙◌}
use Rattle.scc_core.specs.Counters as with
use Rattle.scc_unroll_laws.proofs.Copied.{put_made}
use Rattle.scc_unroll_asked.proofs.Made.{put_items}
use Rattle.scc_unroll.proofs.made.put.Goals as goal

pub returns-clause-code : goal.returns-clause-code
returns-clause-code c = λ r.
    let w = c.with-copies.ensures in
    put_made c.args.counters.now c.args.place c.args.left.now c.in_ok-left.left c.args.value.now c.in_ok-value.value
    (c.in_ok-left.ensures.counted w.numbers ∙ ap (λ ns. with.counted_left ns c.args.left.now) w.counters)
    (c.in_ok-value.ensures.counted w.numbers ∙ ap (λ ns. with.counted ns c.args.value.now) w.counters) r

pub returns-clause-items : goal.returns-clause-items
returns-clause-items c =
    let w = c.with-copies.ensures in
    put_items c.args.counters.now c.args.place c.args.left.now c.in_ok-left.left c.args.value.now c.in_ok-value.value
    (c.in_ok-left.ensures.counted w.numbers ∙ ap (λ ns. with.counted_left ns c.args.left.now) w.counters)
    (c.in_ok-value.ensures.counted w.numbers ∙ ap (λ ns. with.counted ns c.args.value.now) w.counters)
