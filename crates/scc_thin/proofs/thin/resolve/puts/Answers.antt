use Rattle.std.proofs.Common.{ap, sym, ◌∙◌}
use Rattle.std.proofs.lemmas.Result.{err_from_is_err_and}
use Rattle.scc_thin.specs.Resolved.{put_of}
use Rattle.scc_thin.proofs.Each.{each_more, each_none, each_over}
use Rattle.scc_thin.proofs.Halts.{fails_along}
use Rattle.scc_thin.proofs.thin.resolve.puts.Goals as goal

pub returns-in_err-put : goal.returns-in_err-put
returns-in_err-put c =
    let p = err_from_is_err_and c.from_residual.result c.from_residual.ensures.1 in
    rw (p.1, p.2) (fails_along _ _ _
    (λ f. each_none (put_of c.args.ports.now) c.args.writes.now _ c.w-item.result _ _ c.loop-w.invariant c.loop-w-test.true (ap (put_of c.args.ports.now) (sym c.w-item.is) ∙ f))
    c.in_err-put.ensures)

pub loop-w-preserved : goal.loop-w-preserved
loop-w-preserved c =
    each_more (put_of c.args.ports.now) c.args.writes.now _ c.w-item.result _ _ _ _ c.loop-w.invariant c.loop-w-test.true
    (ap (put_of c.args.ports.now) (sym c.w-item.is) ∙ c.in_ok-put.ensures) c.in_ok-push.ensures.ok

pub returns : goal.returns
returns c = sym c.loop-w.invariant ∙ each_over (put_of c.args.ports.now) c.args.writes.now _ _ c.loop-w-test.false
