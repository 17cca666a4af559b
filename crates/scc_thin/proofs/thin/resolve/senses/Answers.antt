use Rattle.std.proofs.Common.{ap, sym, ◌∙◌}
use Rattle.std.proofs.lemmas.Result.{err_from_is_err_and}
use Rattle.scc_thin.specs.Resolved.{input_named}
use Rattle.scc_thin.proofs.Each.{each_more, each_none, each_over}
use Rattle.scc_thin.proofs.Halts.{fails_along}
use Rattle.scc_thin.proofs.thin.resolve.senses.Goals as goal

pub returns-in_err-input : goal.returns-in_err-input
returns-in_err-input c =
    let p = err_from_is_err_and c.from_residual.result c.from_residual.ensures.1 in
    rw (p.1, p.2) (fails_along _ _ _
    (λ f. each_none (input_named c.args.ports.now) c.args.names.now _ c.n-item.result _ _ c.loop-n.invariant c.loop-n-test.true (ap (input_named c.args.ports.now) (sym c.n-item.is ∙ sym c.bytes.ensures.bytes) ∙ f))
    c.in_err-input.ensures)

pub loop-n-preserved : goal.loop-n-preserved
loop-n-preserved c =
    each_more (input_named c.args.ports.now) c.args.names.now _ c.n-item.result _ _ _ _ c.loop-n.invariant c.loop-n-test.true
    (ap (input_named c.args.ports.now) (sym c.n-item.is ∙ sym c.bytes.ensures.bytes) ∙ c.in_ok-input.ensures) c.in_ok-push.ensures.ok

pub returns : goal.returns
returns c = sym c.loop-n.invariant ∙ each_over (input_named c.args.ports.now) c.args.names.now _ _ c.loop-n-test.false
