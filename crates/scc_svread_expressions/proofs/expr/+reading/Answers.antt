use Rattle.std.proofs.Common.{◌∙◌, sym, refl}
use Rattle.std.proofs.lemmas.Result.{err_from_is_err_and}
use Rattle.scc_reading.proofs.Complete.{is_deep, is_stuck}
use Rattle.scc_svread_grammar.specs.Reader.{inner, begins_expr, onto, parts}
use Rattle.scc_svread_expressions.proofs.Turns.{turns_parts, left_expr, none_left}
use Rattle.scc_svread_expressions.proofs.expr.+reading.Goals as goal

pub open_node-returns-then-levels-gt0 : goal.open_node-returns-then-levels-gt0
open_node-returns-then-levels-gt0 t c = rw (left_expr c.args.levels c.args.ts.now c.if-levels-gt0.true) c.expr.ensures

pub open_node-returns-then-begins_expr : goal.open_node-returns-then-begins_expr
unfolding inner
open_node-returns-then-begins_expr t c = (c.args.ts.now, rw (none_left c.args.levels c.if-levels-gt0.false) (is_deep begins_expr c.args.ts.now (sym c.begins_expr.ensures ∙ c.if-begins_expr.true)), refl)

pub open_node-returns : goal.open_node-returns
unfolding inner
open_node-returns t c = (c.args.ts.now, rw (none_left c.args.levels c.if-levels-gt0.false) (is_stuck begins_expr c.args.ts.now (sym c.begins_expr.ensures ∙ c.if-begins_expr.false)), refl)

pub parts-returns-in_err-next : goal.parts-returns-in_err-next
unfolding parts onto
parts-returns-in_err-next t c =
    let p = err_from_is_err_and c.from_residual.result c.from_residual.ensures.1 in
    rw (p.1, p.2) ((turns_parts c.args.levels).fails c.in_err-next.field-0.0 c.loop-alloc.found c.loop-alloc.rest.now _ (sym c.is_next.ensures ∙ c.loop-alloc-test.true) c.in_err-next.ensures c.loop-alloc.invariant)

pub parts-loop-alloc-smaller : goal.parts-loop-alloc-smaller
parts-loop-alloc-smaller t c = (turns_parts c.args.levels).shorter c.loop-alloc.rest.now c.in_ok-next.next c.in_ok-next.after.now c.in_ok-next.ensures

pub parts-loop-alloc-preserved : goal.parts-loop-alloc-preserved
parts-loop-alloc-preserved t c = rw c.in_ok-push.ensures.ok ((turns_parts c.args.levels).turn c.loop-alloc.found c.loop-alloc.rest.now c.in_ok-next.next c.in_ok-next.after.now _ (sym c.is_next.ensures ∙ c.loop-alloc-test.true) c.in_ok-next.ensures c.loop-alloc.invariant)

pub parts-returns : goal.parts-returns
unfolding parts onto
parts-returns t c = (turns_parts c.args.levels).stops c.loop-alloc.found c.loop-alloc.rest.now _ (sym c.is_next.ensures ∙ c.loop-alloc-test.false) c.loop-alloc.invariant
