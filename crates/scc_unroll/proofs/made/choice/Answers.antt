use Rattle.std.proofs.Common.{ap, ◌∙◌}
use Rattle.scc_core.specs.Counters as with
use Rattle.scc_unroll_laws.proofs.Copied.{if_made}
use Rattle.scc_unroll_asked.proofs.Made.{if_items}
use Rattle.scc_unroll.proofs.made.choice.Goals as goal

pub returns-clause-code : goal.returns-clause-code
returns-clause-code c = λ r.
    let w = c.with.ensures in
    if_made c.args.counters.now c.args.place c.args.test.now c.in_ok-test.test c.args.yes c.args.no (c.in_ok-test.ensures.counted w.numbers ∙ ap (λ ns. with.counted ns c.args.test.now) w.counters) r

pub returns-clause-items : goal.returns-clause-items
returns-clause-items c =
    let w = c.with.ensures in
    if_items c.args.counters.now c.args.place c.args.test.now c.in_ok-test.test c.args.yes c.args.no (c.in_ok-test.ensures.counted w.numbers ∙ ap (λ ns. with.counted ns c.args.test.now) w.counters)
