use Rattle.std.proofs.Common.{ap, ◌∙◌, arith, Some}
use Rattle.std.proofs.lemmas.Result.{err_from_is_err_and}
use Rattle.scc_thin.specs.Reading.{name_step}
use Rattle.scc_thin.proofs.Items.{items_end, items_more, items_none, items_over}
use Rattle.scc_thin.proofs.Halts.{fails_along}
use Rattle.scc_thin.proofs.thin.parse.more_names.Goals as goal

pub returns-in_err-found : goal.returns-in_err-found
returns-in_err-found c =
    let p = err_from_is_err_and c.from_residual.result c.from_residual.ensures.1 in
    rw (p.1, p.2) (fails_along _ _ _ (items_none name_step _ _ _ _ _ c.loop.invariant (omega arith)) c.in_err-found.ensures)

pub returns-in-None : goal.returns-in-None
returns-in-None c = items_end name_step _ _ _ _ _ _ c.loop.invariant (omega arith) (c.in_ok-found.ensures ∙ ap (λ f. Some (f, c.in_ok-found.after.now)) c.in-None.is)

pub loop-preserved : goal.loop-preserved
loop-preserved c = items_more name_step _ _ _ _ _ _ _ _ c.loop.invariant (omega arith) c.in_ok-push-in-Some.ensures.ok (c.in_ok-found.ensures ∙ ap (λ f. Some (f, c.in_ok-found.after.now)) c.in-Some.is)

pub returns : goal.returns
returns c = items_over name_step _ _ _ _ _ c.loop.invariant (omega arith)
