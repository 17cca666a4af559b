use Rattle.std.proofs.Common.{ap, ◌∙◌}
use Rattle.scc_core.specs.Counters as with
use Rattle.scc_unroll_laws.proofs.Copied.{aim_made}
use Rattle.scc_unroll_asked.proofs.Made.{aim_items}
use Rattle.scc_unroll.proofs.made.aim.Goals as goal

pub returns-clause-code : goal.returns-clause-code
returns-clause-code c = λ r.
    let w = c.with-copies.ensures in
    aim_made c.args.counters.now c.args.place c.args.to.now c.in_ok-to.to c.args.target.now c.in_ok-target.target
    (c.in_ok-to.ensures.counted w.numbers ∙ ap (λ ns. with.counted_pointed ns c.args.to.now) w.counters)
    (c.in_ok-target.ensures.counted w.numbers ∙ ap (λ ns. with.counted_left ns c.args.target.now) w.counters) r

pub returns-clause-items : goal.returns-clause-items
returns-clause-items c =
    let w = c.with-copies.ensures in
    aim_items c.args.counters.now c.args.place c.args.to.now c.in_ok-to.to c.args.target.now c.in_ok-target.target
    (c.in_ok-to.ensures.counted w.numbers ∙ ap (λ ns. with.counted_pointed ns c.args.to.now) w.counters)
    (c.in_ok-target.ensures.counted w.numbers ∙ ap (λ ns. with.counted_left ns c.args.target.now) w.counters)
