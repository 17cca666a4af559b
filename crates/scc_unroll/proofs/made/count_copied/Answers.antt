use Rattle.std.proofs.Common.{map, sym, ap, ◌∙◌, Some, option_map}
use Rattle.scc_core.specs.Counters as with
use Rattle.scc_core_spec.specs.Unrolled.{counting_count}
use Rattle.scc_core_view.specs.Codes.{counted}
use Rattle.scc_unroll_laws.specs.Counters.{counters_of}
use Rattle.scc_unroll_laws.proofs.Copied.{count_is}
use Rattle.scc_unroll_asked.specs.Copied.{copied}
use Rattle.scc_unroll_asked.specs.Items.{asked_count}
use Rattle.scc_unroll_asked.proofs.Made.{count_items}
use Rattle.scc_unroll.proofs.made.count_copied.Goals as goal

pub returns-in_ok-copy-in-Some-clause-code : goal.returns-in_ok-copy-in-Some-clause-code
returns-in_ok-copy-in-Some-clause-code c =
    let w = c.with.ensures in
    let n = c.in-Some.count in
    ap (λ x. Some x) (count_is c.args.counters.now n c.in_ok-copy-in-Some.copy (c.in_ok-copy-in-Some.ensures.counted w.numbers ∙ ap (λ ns. with.counted_count ns n) w.counters))
    ∙ ap (λ o. option_map (counting_count (counters_of c.args.counters.now)) (counted o)) (sym c.in-Some.is)

pub returns-in_ok-copy-in-Some-clause-items : goal.returns-in_ok-copy-in-Some-clause-items
returns-in_ok-copy-in-Some-clause-items c =
    let w = c.with.ensures in
    let n = c.in-Some.count in
    count_items c.args.counters.now n c.in_ok-copy-in-Some.copy (c.in_ok-copy-in-Some.ensures.counted w.numbers ∙ ap (λ ns. with.counted_count ns n) w.counters)
    ∙ ap (λ o. map (copied c.args.counters.now) (asked_count o)) (sym c.in-Some.is)
