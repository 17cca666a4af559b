use Rattle.std.proofs.Common.{map, sym}
use Rattle.scc_plain_view.specs.Terms.{argument_of}
use Rattle.scc_inline_facts.proofs.Counted.{call_grows, saturated}
use Rattle.scc_inline_facts.proofs.counts.with_call.Goals as goal

pub returns : goal.returns
returns c = λ sizes heights agrees. call_grows c.args.s.now.plain.now c.args.call.now.function c.in-Some.callee.now (map argument_of c.args.call.now.args.now) sizes heights
    c.args.before c.plus-block.result c.plus-result.result c.plus.result c.with.result c.args.depth c.saturating_add-inner.result c.results.result c.in_ok-given.given c.in_ok-body.body.size c.in_ok-body.body.height
    (sym c.in-Some.ensures.element) (saturated c.args.depth c.saturating_add-inner.result c.saturating_add-inner.ensures) c.results.ensures c.in_ok-given.ensures
    (c.in_ok-body.ensures sizes heights agrees).0 (c.in_ok-body.ensures sizes heights agrees).1 c.plus-block.ensures c.plus-result.ensures c.plus.ensures c.with.ensures
