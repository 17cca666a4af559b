use Rattle.std.proofs.Common.{sym, ◌∙◌}
use Rattle.std.proofs.lemmas.Result.{err_from_is_err_and}
use Rattle.scc_grammar_declarations.proofs.ListLoops.{loop_prms}
use Rattle.scc_grammar_declarations.proofs.parameters.more_prms.Goals as goal

pub returns-in_err-next : goal.returns-in_err-next
returns-in_err-next c =
    let p = err_from_is_err_and c.from_residual.result c.from_residual.ensures.1 in
    rw (p.1, p.2) ((loop_prms c.args.c.names.now c.args.c.levels).fails c.in_err-next.field-0.0 c.loop-c.found c.loop-c.rest.now _ (sym c.begins_comma.ensures ∙ c.loop-c-test.true) c.in_err-next.ensures c.loop-c.invariant)

pub loop-c-smaller : goal.loop-c-smaller
loop-c-smaller c = (loop_prms c.args.c.names.now c.args.c.levels).shorter c.loop-c.rest.now c.in_ok-next.next c.in_ok-next.after.now c.in_ok-next.ensures

pub loop-c-preserved : goal.loop-c-preserved
loop-c-preserved c = rw c.in_ok-push.ensures.ok ((loop_prms c.args.c.names.now c.args.c.levels).turn c.loop-c.found c.loop-c.rest.now c.in_ok-next.next c.in_ok-next.after.now _ (sym c.begins_comma.ensures ∙ c.loop-c-test.true) c.in_ok-next.ensures c.loop-c.invariant)

pub returns : goal.returns
returns c = (loop_prms c.args.c.names.now c.args.c.levels).stops c.loop-c.found c.loop-c.rest.now _ (sym c.begins_comma.ensures ∙ c.loop-c-test.false) c.loop-c.invariant
