use Rattle.std.proofs.Common.{◌∙◌, sym, refl}
use Rattle.std.proofs.lemmas.Result.{err_from_is_err_and}
use Rattle.scc_reading.proofs.Complete.{is_deep, is_stuck}
use Rattle.scc_svread_grammar.specs.Reader.{inner, begins_name, onto, stmts, arms}
use Rattle.scc_svread_raw.proofs.Blanks.{other_steps}
use Rattle.scc_svread_expressions.proofs.Turns.{turns_stmts, turns_arms, left_stmt, none_left}
use Rattle.scc_svread_raw.proofs.stmt.+reading_stmt.Goals as goal

pub open_stmt-returns-then-levels-gt0 : goal.open_stmt-returns-then-levels-gt0
open_stmt-returns-then-levels-gt0 t c = rw (left_stmt c.args.levels c.args.indent c.args.ts.now c.if-levels-gt0.true) c.stmt.ensures

pub open_stmt-returns-then-begins_name : goal.open_stmt-returns-then-begins_name
unfolding inner
open_stmt-returns-then-begins_name t c = (c.args.ts.now, rw (none_left c.args.levels c.if-levels-gt0.false) (is_deep begins_name c.args.ts.now (sym c.begins_name.ensures ∙ c.if-begins_name.true)), refl)

pub open_stmt-returns : goal.open_stmt-returns
unfolding inner
open_stmt-returns t c = (c.args.ts.now, rw (none_left c.args.levels c.if-levels-gt0.false) (is_stuck begins_name c.args.ts.now (sym c.begins_name.ensures ∙ c.if-begins_name.false)), refl)

pub more_stmts-returns-in_err-next : goal.more_stmts-returns-in_err-next
unfolding stmts onto
more_stmts-returns-in_err-next t c =
    let p = err_from_is_err_and c.from_residual.result c.from_residual.ensures.1 in
    rw (p.1, p.2) ((turns_stmts c.args.levels c.args.outer).fails c.in_err-next.field-0.0 c.loop-alloc.found c.loop-alloc.rest.now _ (sym c.is_next.ensures ∙ c.loop-alloc-test.true) c.in_err-next.ensures c.loop-alloc.invariant)

pub more_stmts-loop-alloc-smaller : goal.more_stmts-loop-alloc-smaller
more_stmts-loop-alloc-smaller t c = (turns_stmts c.args.levels c.args.outer).shorter c.loop-alloc.rest.now c.in_ok-next.next c.in_ok-next.after.now c.in_ok-next.ensures

pub more_stmts-loop-alloc-preserved : goal.more_stmts-loop-alloc-preserved
more_stmts-loop-alloc-preserved t c = rw c.in_ok-push.ensures.ok ((turns_stmts c.args.levels c.args.outer).turn c.loop-alloc.found c.loop-alloc.rest.now c.in_ok-next.next c.in_ok-next.after.now _ (sym c.is_next.ensures ∙ c.loop-alloc-test.true) c.in_ok-next.ensures c.loop-alloc.invariant)

pub more_stmts-returns : goal.more_stmts-returns
unfolding stmts onto
more_stmts-returns t c = (turns_stmts c.args.levels c.args.outer).stops c.loop-alloc.found c.loop-alloc.rest.now _ (sym c.is_next.ensures ∙ c.loop-alloc-test.false) c.loop-alloc.invariant

pub arms-returns-in_err-next : goal.arms-returns-in_err-next
unfolding arms
arms-returns-in_err-next t c =
    let p = err_from_is_err_and c.from_residual.result c.from_residual.ensures.1 in
    rw (p.1, p.2) ((turns_arms c.args.levels c.args.outer).fails c.in_err-next.field-0.0 c.loop-alloc.found c.loop-alloc.rest.now _ (sym c.is_next.ensures ∙ c.loop-alloc-test.true) c.in_err-next.ensures c.loop-alloc.invariant)

pub arms-loop-alloc-smaller : goal.arms-loop-alloc-smaller
arms-loop-alloc-smaller t c = (turns_arms c.args.levels c.args.outer).shorter c.loop-alloc.rest.now c.in_ok-next.next c.in_ok-next.after.now c.in_ok-next.ensures

pub arms-loop-alloc-preserved : goal.arms-loop-alloc-preserved
arms-loop-alloc-preserved t c = rw c.in_ok-push.ensures.ok ((turns_arms c.args.levels c.args.outer).turn c.loop-alloc.found c.loop-alloc.rest.now c.in_ok-next.next c.in_ok-next.after.now _ (sym c.is_next.ensures ∙ c.loop-alloc-test.true) c.in_ok-next.ensures c.loop-alloc.invariant)

pub arms-returns : goal.arms-returns
unfolding arms
arms-returns t c = (turns_arms c.args.levels c.args.outer).stops c.loop-alloc.found c.loop-alloc.rest.now _ (sym c.is_next.ensures ∙ c.loop-alloc-test.false) c.loop-alloc.invariant

pub other-returns : goal.other-returns
other-returns t c = rw (other_steps c.args.levels c.args.outer c.in_ok-rest.field-0-0 c.in_ok-rest-2.field-0-0 c.args.ts.now c.in_ok-rest.rest.now c.in_ok-rest-2.rest.now c.in_ok-first.rest.now c.in_ok-first.first
    c.in_ok-rest.ensures c.in_ok-rest-2.ensures c.in_ok-first.ensures) c.stmts_behind.ensures
