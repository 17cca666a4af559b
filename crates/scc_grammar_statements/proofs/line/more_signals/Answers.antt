use Rattle.std.proofs.Common.{sym, ◌∙◌}
use Rattle.std.proofs.lemmas.Result.{err_from_is_err_and}
use Rattle.scc_grammar_spec.specs.ParseStatements as s
use Rattle.scc_grammar_sound.proofs.Loops.{loop_signals}
use Rattle.scc_grammar_statements.proofs.line.more_signals.Goals as goal

pub returns-in_err-next : goal.returns-in_err-next
unfolding s.more_signals
returns-in_err-next c =
    let p = err_from_is_err_and c.from_residual.result c.from_residual.ensures.1 in
    rw (p.1, p.2) ((loop_signals c.args.c.names.now c.args.c.levels).fails c.in_err-next.field-0.0 c.loop-c.found c.loop-c.rest.now _ (sym c.begins_shift_left.ensures ∙ c.loop-c-test.true) c.in_err-next.ensures c.loop-c.invariant)

pub loop-c-smaller : goal.loop-c-smaller
loop-c-smaller c = (loop_signals c.args.c.names.now c.args.c.levels).shorter c.loop-c.rest.now c.in_ok-next.next c.in_ok-next.after.now c.in_ok-next.ensures

pub loop-c-preserved : goal.loop-c-preserved
unfolding s.more_signals
loop-c-preserved c = rw c.in_ok-push.ensures.ok ((loop_signals c.args.c.names.now c.args.c.levels).turn c.loop-c.found c.loop-c.rest.now c.in_ok-next.next c.in_ok-next.after.now _ (sym c.begins_shift_left.ensures ∙ c.loop-c-test.true) c.in_ok-next.ensures c.loop-c.invariant)

pub returns : goal.returns
unfolding s.more_signals
returns c = (loop_signals c.args.c.names.now c.args.c.levels).stops c.loop-c.found c.loop-c.rest.now _ (sym c.begins_shift_left.ensures ∙ c.loop-c-test.false) c.loop-c.invariant
