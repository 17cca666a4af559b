use Rattle.std.proofs.Common.{sym, ◌∙◌}
use Rattle.std.proofs.lemmas.Result.{err_from_is_err_and}
use Rattle.scc_reading.proofs.Loop.{nothing_before}
use Rattle.scc_grammar_spec.specs.ParseStatements as s
use Rattle.scc_grammar_sound.proofs.Loops.{loop_sizes}
use Rattle.scc_grammar_statements.proofs.local.sizes.Goals as goal

pub loop-c-init : goal.loop-c-init
unfolding s.sizes
loop-c-init c = rw c.new-found.ensures.empty (nothing_before _)

pub returns-in_err-next : goal.returns-in_err-next
unfolding s.sizes
returns-in_err-next c =
    let p = err_from_is_err_and c.from_residual.result c.from_residual.ensures.1 in
    rw (p.1, p.2) ((loop_sizes c.args.c.names.now c.args.c.levels).fails c.in_err-next.field-0.0 c.loop-c.found c.loop-c.rest.now _ (sym c.begins_bracket_open.ensures ∙ c.loop-c-test.true) c.in_err-next.ensures c.loop-c.invariant)

pub loop-c-smaller : goal.loop-c-smaller
loop-c-smaller c = (loop_sizes c.args.c.names.now c.args.c.levels).shorter c.loop-c.rest.now c.in_ok-next.next c.in_ok-next.after.now c.in_ok-next.ensures

pub loop-c-preserved : goal.loop-c-preserved
unfolding s.sizes
loop-c-preserved c = rw c.in_ok-push.ensures.ok ((loop_sizes c.args.c.names.now c.args.c.levels).turn c.loop-c.found c.loop-c.rest.now c.in_ok-next.next c.in_ok-next.after.now _ (sym c.begins_bracket_open.ensures ∙ c.loop-c-test.true) c.in_ok-next.ensures c.loop-c.invariant)

pub returns : goal.returns
unfolding s.sizes
returns c = (loop_sizes c.args.c.names.now c.args.c.levels).stops c.loop-c.found c.loop-c.rest.now _ (sym c.begins_bracket_open.ensures ∙ c.loop-c-test.false) c.loop-c.invariant
