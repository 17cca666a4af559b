use Rattle.std.proofs.Common.{sym, ◌∙◌}
use Rattle.std.proofs.lemmas.Result.{err_from_is_err_and}
use Rattle.scc_reading.proofs.Loop.{nothing_before}
use Rattle.scc_grammar_spec.specs.ParseStatements as s
use Rattle.scc_grammar_spec.specs.ParseStatements.{inner}
use Rattle.scc_grammar_terminals.specs.Text.{next_is}
use Rattle.scc_grammar_sound.proofs.Loops.{loop_items, loop_inner, left_stmt, none_left, is_deep, is_stuck}
use Rattle.scc_grammar_statements.proofs.stmt.+statement.Goals as goal

pub switch_items-loop-c-init : goal.switch_items-loop-c-init
unfolding s.switch_items
switch_items-loop-c-init t c = rw c.new-found.ensures.empty (nothing_before _)

pub switch_items-returns-in_err-next : goal.switch_items-returns-in_err-next
unfolding s.switch_items
switch_items-returns-in_err-next t c =
    let p = err_from_is_err_and c.from_residual.result c.from_residual.ensures.1 in
    rw (p.1, p.2) ((loop_items c.args.c.names.now c.args.c.levels).fails c.in_err-next.field-0.0 c.loop-c.found c.loop-c.rest.now _ (sym c.begins_not_brace_close.ensures ∙ c.loop-c-test.true) c.in_err-next.ensures c.loop-c.invariant)

pub switch_items-loop-c-smaller : goal.switch_items-loop-c-smaller
switch_items-loop-c-smaller t c = (loop_items c.args.c.names.now c.args.c.levels).shorter c.loop-c.rest.now c.in_ok-next.next c.in_ok-next.after.now c.in_ok-next.ensures

pub switch_items-loop-c-preserved : goal.switch_items-loop-c-preserved
unfolding s.switch_items
switch_items-loop-c-preserved t c = rw c.in_ok-push.ensures.ok ((loop_items c.args.c.names.now c.args.c.levels).turn c.loop-c.found c.loop-c.rest.now c.in_ok-next.next c.in_ok-next.after.now _ (sym c.begins_not_brace_close.ensures ∙ c.loop-c-test.true) c.in_ok-next.ensures c.loop-c.invariant)

pub switch_items-returns : goal.switch_items-returns
unfolding s.switch_items
switch_items-returns t c = (loop_items c.args.c.names.now c.args.c.levels).stops c.loop-c.found c.loop-c.rest.now _ (sym c.begins_not_brace_close.ensures ∙ c.loop-c-test.false) c.loop-c.invariant

pub inner_stmts-loop-c-init : goal.inner_stmts-loop-c-init
inner_stmts-loop-c-init t c = rw c.new-found.ensures.empty (nothing_before _)

pub inner_stmts-returns-in_err-next : goal.inner_stmts-returns-in_err-next
inner_stmts-returns-in_err-next t c =
    let p = err_from_is_err_and c.from_residual.result c.from_residual.ensures.1 in
    rw (p.1, p.2) ((loop_inner c.args.c.names.now c.args.c.levels).fails c.in_err-next.field-0.0 c.loop-c.found c.loop-c.rest.now _ (sym c.begins_not_brace_close.ensures ∙ c.loop-c-test.true) c.in_err-next.ensures c.loop-c.invariant)

pub inner_stmts-loop-c-smaller : goal.inner_stmts-loop-c-smaller
inner_stmts-loop-c-smaller t c = (loop_inner c.args.c.names.now c.args.c.levels).shorter c.loop-c.rest.now c.in_ok-next.next c.in_ok-next.after.now c.in_ok-next.ensures

pub inner_stmts-loop-c-preserved : goal.inner_stmts-loop-c-preserved
inner_stmts-loop-c-preserved t c = rw c.in_ok-push.ensures.ok ((loop_inner c.args.c.names.now c.args.c.levels).turn c.loop-c.found c.loop-c.rest.now c.in_ok-next.next c.in_ok-next.after.now _ (sym c.begins_not_brace_close.ensures ∙ c.loop-c-test.true) c.in_ok-next.ensures c.loop-c.invariant)

pub inner_stmts-returns : goal.inner_stmts-returns
inner_stmts-returns t c = (loop_inner c.args.c.names.now c.args.c.levels).stops c.loop-c.found c.loop-c.rest.now _ (sym c.begins_not_brace_close.ensures ∙ c.loop-c-test.false) c.loop-c.invariant

pub open_stmt-returns-then-c-gt0 : goal.open_stmt-returns-then-c-gt0
open_stmt-returns-then-c-gt0 t c = rw (left_stmt c.args.c.names.now c.args.c.levels c.if-c-gt0.true c.args.ts.now) (rw (c.within.ensures.names, c.within.ensures.levels) at c.stmt.ensures)

pub open_stmt-returns-then-begins_stmt : goal.open_stmt-returns-then-begins_stmt
unfolding inner
open_stmt-returns-then-begins_stmt t c = (c.args.ts.now, rw (none_left c.args.c.names.now c.args.c.levels c.if-c-gt0.false) (is_deep (next_is (s.begins_stmt c.args.c.names.now)) c.args.ts.now (sym c.begins_stmt.ensures ∙ c.if-begins_stmt.true)), c.place_of.ensures)

pub open_stmt-returns : goal.open_stmt-returns
unfolding inner
open_stmt-returns t c = (c.args.ts.now, rw (none_left c.args.c.names.now c.args.c.levels c.if-c-gt0.false) (is_stuck (next_is (s.begins_stmt c.args.c.names.now)) c.args.ts.now (sym c.begins_stmt.ensures ∙ c.if-begins_stmt.false)), c.place_of-2.ensures)
