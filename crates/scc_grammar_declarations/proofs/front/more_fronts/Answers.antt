use Rattle.std.proofs.Common.{sym, ◌∙◌}
use Rattle.std.proofs.lemmas.Result.{err_from_is_err_and}
use Rattle.scc_grammar_declarations.proofs.ListLoops.{loop_fronts}
use Rattle.scc_grammar_declarations.proofs.front.more_fronts.Goals as goal

pub returns-in_err-next : goal.returns-in_err-next
returns-in_err-next c =
    let p = err_from_is_err_and c.from_residual.result c.from_residual.ensures.1 in
    rw (p.1, p.2) (loop_fronts.fails c.in_err-next.field-0.0 c.loop-rest.found c.loop-rest.rest.now _ (sym c.begins_front.ensures ∙ c.loop-rest-test.true) c.in_err-next.ensures c.loop-rest.invariant)

pub loop-rest-smaller : goal.loop-rest-smaller
loop-rest-smaller c = loop_fronts.shorter c.loop-rest.rest.now c.in_ok-next.next c.in_ok-next.after.now c.in_ok-next.ensures

pub loop-rest-preserved : goal.loop-rest-preserved
loop-rest-preserved c = rw c.in_ok-push.ensures.ok (loop_fronts.turn c.loop-rest.found c.loop-rest.rest.now c.in_ok-next.next c.in_ok-next.after.now _ (sym c.begins_front.ensures ∙ c.loop-rest-test.true) c.in_ok-next.ensures c.loop-rest.invariant)

pub returns : goal.returns
returns c = loop_fronts.stops c.loop-rest.found c.loop-rest.rest.now _ (sym c.begins_front.ensures ∙ c.loop-rest-test.false) c.loop-rest.invariant
