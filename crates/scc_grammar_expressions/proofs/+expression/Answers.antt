use Rattle.std.proofs.Common.{sym, ◌∙◌, ap}
use Rattle.scc_grammar_terminals.specs.First as f
use Rattle.scc_grammar_spec.specs.ParseExpressions as e
use Rattle.scc_grammar_spec.specs.ParseStatements.{inner}
use Rattle.scc_grammar_terminals.specs.Text.{next_is}
use Rattle.std.proofs.lemmas.Result.{err_from_is_err_and}
use Rattle.scc_reading.specs.Reading.{and_then, pure}
use Rattle.scc_reading.proofs.Loop.{nothing_before, nothing_before_in}
use Rattle.scc_grammar_sound.proofs.Loops.{fails_through, ty_args_by, loop_exprs, loop_cargs, loop_links, loop_parts, loop_ty_args, left_expr, left_additive, left_type, left_ty_arg, left_bracketed, left_unary, left_argument, none_left, is_deep, is_stuck}
use Rattle.scc_grammar_expressions.proofs.+expression.Goals as goal

pub opening::open_expr-returns-then-c-gt0 : goal.opening::open_expr-returns-then-c-gt0
opening::open_expr-returns-then-c-gt0 t c = rw (left_expr c.args.c.names.now c.args.c.levels c.if-c-gt0.true c.args.ts.now) (rw (c.within.ensures.names, c.within.ensures.levels) at c.expr.ensures)

pub opening::open_expr-returns-then-begins_expr : goal.opening::open_expr-returns-then-begins_expr
unfolding inner
opening::open_expr-returns-then-begins_expr t c = (c.args.ts.now, rw (none_left c.args.c.names.now c.args.c.levels c.if-c-gt0.false) (is_deep (next_is (f.begins_expr c.args.c.names.now)) c.args.ts.now (sym c.begins_expr.ensures ∙ c.if-begins_expr.true)), c.place_of.ensures)

pub opening::open_expr-returns : goal.opening::open_expr-returns
unfolding inner
opening::open_expr-returns t c = (c.args.ts.now, rw (none_left c.args.c.names.now c.args.c.levels c.if-c-gt0.false) (is_stuck (next_is (f.begins_expr c.args.c.names.now)) c.args.ts.now (sym c.begins_expr.ensures ∙ c.if-begins_expr.false)), c.place_of-2.ensures)

pub opening::open_additive-returns-then-c-gt0 : goal.opening::open_additive-returns-then-c-gt0
opening::open_additive-returns-then-c-gt0 t c = rw (left_additive c.args.c.names.now c.args.c.levels c.if-c-gt0.true c.args.ts.now) (rw (c.within.ensures.names, c.within.ensures.levels) at c.additive.ensures)

pub opening::open_additive-returns-then-begins_expr : goal.opening::open_additive-returns-then-begins_expr
unfolding inner
opening::open_additive-returns-then-begins_expr t c = (c.args.ts.now, rw (none_left c.args.c.names.now c.args.c.levels c.if-c-gt0.false) (is_deep (next_is (f.begins_expr c.args.c.names.now)) c.args.ts.now (sym c.begins_expr.ensures ∙ c.if-begins_expr.true)), c.place_of.ensures)

pub opening::open_additive-returns : goal.opening::open_additive-returns
unfolding inner
opening::open_additive-returns t c = (c.args.ts.now, rw (none_left c.args.c.names.now c.args.c.levels c.if-c-gt0.false) (is_stuck (next_is (f.begins_expr c.args.c.names.now)) c.args.ts.now (sym c.begins_expr.ensures ∙ c.if-begins_expr.false)), c.place_of-2.ensures)

pub opening::open_type-returns-then-c-gt0 : goal.opening::open_type-returns-then-c-gt0
opening::open_type-returns-then-c-gt0 t c = rw (left_type c.args.c.names.now c.args.c.levels c.if-c-gt0.true c.args.ts.now) (rw (c.within.ensures.names, c.within.ensures.levels) at c.type_at.ensures)

pub opening::open_type-returns-then-begins_type : goal.opening::open_type-returns-then-begins_type
unfolding inner
opening::open_type-returns-then-begins_type t c = (c.args.ts.now, rw (none_left c.args.c.names.now c.args.c.levels c.if-c-gt0.false) (is_deep (next_is (f.begins_type c.args.c.names.now)) c.args.ts.now (sym c.begins_type.ensures ∙ c.if-begins_type.true)), c.place_of.ensures)

pub opening::open_type-returns : goal.opening::open_type-returns
unfolding inner
opening::open_type-returns t c = (c.args.ts.now, rw (none_left c.args.c.names.now c.args.c.levels c.if-c-gt0.false) (is_stuck (next_is (f.begins_type c.args.c.names.now)) c.args.ts.now (sym c.begins_type.ensures ∙ c.if-begins_type.false)), c.place_of-2.ensures)

pub opening::open_ty_arg-returns-then-c-gt0 : goal.opening::open_ty_arg-returns-then-c-gt0
opening::open_ty_arg-returns-then-c-gt0 t c = rw (left_ty_arg c.args.c.names.now c.args.c.levels c.if-c-gt0.true c.args.ts.now) (rw (c.within.ensures.names, c.within.ensures.levels) at c.ty_arg.ensures)

pub opening::open_ty_arg-returns-then-begins_ty_arg : goal.opening::open_ty_arg-returns-then-begins_ty_arg
unfolding inner
opening::open_ty_arg-returns-then-begins_ty_arg t c = (c.args.ts.now, rw (none_left c.args.c.names.now c.args.c.levels c.if-c-gt0.false) (is_deep (next_is (f.begins_ty_arg c.args.c.names.now)) c.args.ts.now (sym c.begins_ty_arg.ensures ∙ c.if-begins_ty_arg.true)), c.place_of.ensures)

pub opening::open_ty_arg-returns : goal.opening::open_ty_arg-returns
unfolding inner
opening::open_ty_arg-returns t c = (c.args.ts.now, rw (none_left c.args.c.names.now c.args.c.levels c.if-c-gt0.false) (is_stuck (next_is (f.begins_ty_arg c.args.c.names.now)) c.args.ts.now (sym c.begins_ty_arg.ensures ∙ c.if-begins_ty_arg.false)), c.place_of-2.ensures)

pub opening::open_bracketed-returns-then-c-gt0 : goal.opening::open_bracketed-returns-then-c-gt0
opening::open_bracketed-returns-then-c-gt0 t c = rw (left_bracketed c.args.c.names.now c.args.c.levels c.if-c-gt0.true c.args.ts.now) (rw (c.within.ensures.names, c.within.ensures.levels) at c.bracketed.ensures)

pub opening::open_bracketed-returns-then-begins_ty_arg : goal.opening::open_bracketed-returns-then-begins_ty_arg
unfolding inner
opening::open_bracketed-returns-then-begins_ty_arg t c = (c.args.ts.now, rw (none_left c.args.c.names.now c.args.c.levels c.if-c-gt0.false) (is_deep (next_is (f.begins_ty_arg c.args.c.names.now)) c.args.ts.now (sym c.begins_ty_arg.ensures ∙ c.if-begins_ty_arg.true)), c.place_of.ensures)

pub opening::open_bracketed-returns : goal.opening::open_bracketed-returns
unfolding inner
opening::open_bracketed-returns t c = (c.args.ts.now, rw (none_left c.args.c.names.now c.args.c.levels c.if-c-gt0.false) (is_stuck (next_is (f.begins_ty_arg c.args.c.names.now)) c.args.ts.now (sym c.begins_ty_arg.ensures ∙ c.if-begins_ty_arg.false)), c.place_of-2.ensures)

pub opening::open_unary-returns-then-c-gt0 : goal.opening::open_unary-returns-then-c-gt0
opening::open_unary-returns-then-c-gt0 t c = rw (left_unary c.args.c.names.now c.args.c.levels c.if-c-gt0.true c.args.ts.now) (rw (c.within.ensures.names, c.within.ensures.levels) at c.operand.ensures)

pub opening::open_unary-returns-then-begins_expr : goal.opening::open_unary-returns-then-begins_expr
unfolding inner
opening::open_unary-returns-then-begins_expr t c = (c.args.ts.now, rw (none_left c.args.c.names.now c.args.c.levels c.if-c-gt0.false) (is_deep (next_is (f.begins_expr c.args.c.names.now)) c.args.ts.now (sym c.begins_expr.ensures ∙ c.if-begins_expr.true)), c.place_of.ensures)

pub opening::open_unary-returns : goal.opening::open_unary-returns
unfolding inner
opening::open_unary-returns t c = (c.args.ts.now, rw (none_left c.args.c.names.now c.args.c.levels c.if-c-gt0.false) (is_stuck (next_is (f.begins_expr c.args.c.names.now)) c.args.ts.now (sym c.begins_expr.ensures ∙ c.if-begins_expr.false)), c.place_of-2.ensures)

pub opening::open_argument-returns-then-c-gt0 : goal.opening::open_argument-returns-then-c-gt0
opening::open_argument-returns-then-c-gt0 t c = rw (left_argument c.args.c.names.now c.args.c.levels c.if-c-gt0.true c.args.ts.now) (rw (c.within.ensures.names, c.within.ensures.levels) at c.argument.ensures)

pub opening::open_argument-returns-then-begins_argument : goal.opening::open_argument-returns-then-begins_argument
unfolding inner
opening::open_argument-returns-then-begins_argument t c = (c.args.ts.now, rw (none_left c.args.c.names.now c.args.c.levels c.if-c-gt0.false) (is_deep (next_is (f.begins_argument c.args.c.names.now)) c.args.ts.now (sym c.begins_argument.ensures ∙ c.if-begins_argument.true)), c.place_of.ensures)

pub opening::open_argument-returns : goal.opening::open_argument-returns
unfolding inner
opening::open_argument-returns t c = (c.args.ts.now, rw (none_left c.args.c.names.now c.args.c.levels c.if-c-gt0.false) (is_stuck (next_is (f.begins_argument c.args.c.names.now)) c.args.ts.now (sym c.begins_argument.ensures ∙ c.if-begins_argument.false)), c.place_of-2.ensures)

pub postfix::more_exprs-returns-in_err-next : goal.postfix::more_exprs-returns-in_err-next
unfolding e.more_exprs
postfix::more_exprs-returns-in_err-next t c =
    let p = err_from_is_err_and c.from_residual.result c.from_residual.ensures.1 in
    rw (p.1, p.2) ((loop_exprs c.args.c.names.now c.args.c.levels).fails c.in_err-next.field-0.0 c.loop-c.found c.loop-c.rest.now _ (sym c.begins_comma.ensures ∙ c.loop-c-test.true) c.in_err-next.ensures c.loop-c.invariant)

pub postfix::more_exprs-loop-c-smaller : goal.postfix::more_exprs-loop-c-smaller
postfix::more_exprs-loop-c-smaller t c = (loop_exprs c.args.c.names.now c.args.c.levels).shorter c.loop-c.rest.now c.in_ok-next.next c.in_ok-next.after.now c.in_ok-next.ensures

pub postfix::more_exprs-loop-c-preserved : goal.postfix::more_exprs-loop-c-preserved
unfolding e.more_exprs
postfix::more_exprs-loop-c-preserved t c = rw c.in_ok-push.ensures.ok ((loop_exprs c.args.c.names.now c.args.c.levels).turn c.loop-c.found c.loop-c.rest.now c.in_ok-next.next c.in_ok-next.after.now _ (sym c.begins_comma.ensures ∙ c.loop-c-test.true) c.in_ok-next.ensures c.loop-c.invariant)

pub postfix::more_exprs-returns : goal.postfix::more_exprs-returns
unfolding e.more_exprs
postfix::more_exprs-returns t c = (loop_exprs c.args.c.names.now c.args.c.levels).stops c.loop-c.found c.loop-c.rest.now _ (sym c.begins_comma.ensures ∙ c.loop-c-test.false) c.loop-c.invariant

pub postfix::more_cargs-returns-in_err-next : goal.postfix::more_cargs-returns-in_err-next
unfolding e.more_cargs
postfix::more_cargs-returns-in_err-next t c =
    let p = err_from_is_err_and c.from_residual.result c.from_residual.ensures.1 in
    rw (p.1, p.2) ((loop_cargs c.args.c.names.now c.args.c.levels).fails c.in_err-next.field-0.0 c.loop-c.found c.loop-c.rest.now _ (sym c.begins_comma.ensures ∙ c.loop-c-test.true) c.in_err-next.ensures c.loop-c.invariant)

pub postfix::more_cargs-loop-c-smaller : goal.postfix::more_cargs-loop-c-smaller
postfix::more_cargs-loop-c-smaller t c = (loop_cargs c.args.c.names.now c.args.c.levels).shorter c.loop-c.rest.now c.in_ok-next.next c.in_ok-next.after.now c.in_ok-next.ensures

pub postfix::more_cargs-loop-c-preserved : goal.postfix::more_cargs-loop-c-preserved
unfolding e.more_cargs
postfix::more_cargs-loop-c-preserved t c = rw c.in_ok-push.ensures.ok ((loop_cargs c.args.c.names.now c.args.c.levels).turn c.loop-c.found c.loop-c.rest.now c.in_ok-next.next c.in_ok-next.after.now _ (sym c.begins_comma.ensures ∙ c.loop-c-test.true) c.in_ok-next.ensures c.loop-c.invariant)

pub postfix::more_cargs-returns : goal.postfix::more_cargs-returns
unfolding e.more_cargs
postfix::more_cargs-returns t c = (loop_cargs c.args.c.names.now c.args.c.levels).stops c.loop-c.found c.loop-c.rest.now _ (sym c.begins_comma.ensures ∙ c.loop-c-test.false) c.loop-c.invariant

pub chain::links-returns-in_err-next : goal.chain::links-returns-in_err-next
chain::links-returns-in_err-next t c =
    let p = err_from_is_err_and c.from_residual.result c.from_residual.ensures.1 in
    rw (p.1, p.2) ((loop_links c.args.c.names.now c.args.c.levels c.args.k c.requires).fails c.in_err-next.field-0.0 c.loop-c.found c.loop-c.rest.now _ (sym c.begins_operator.ensures ∙ c.loop-c-test.true) c.in_err-next.ensures c.loop-c.invariant)

pub chain::links-loop-c-smaller : goal.chain::links-loop-c-smaller
chain::links-loop-c-smaller t c = (loop_links c.args.c.names.now c.args.c.levels c.args.k c.requires).shorter c.loop-c.rest.now c.in_ok-next.next c.in_ok-next.after.now c.in_ok-next.ensures

pub chain::links-loop-c-preserved : goal.chain::links-loop-c-preserved
chain::links-loop-c-preserved t c = rw c.in_ok-push.ensures.ok ((loop_links c.args.c.names.now c.args.c.levels c.args.k c.requires).turn c.loop-c.found c.loop-c.rest.now c.in_ok-next.next c.in_ok-next.after.now _ (sym c.begins_operator.ensures ∙ c.loop-c-test.true) c.in_ok-next.ensures c.loop-c.invariant)

pub chain::links-returns : goal.chain::links-returns
chain::links-returns t c = (loop_links c.args.c.names.now c.args.c.levels c.args.k c.requires).stops c.loop-c.found c.loop-c.rest.now _ (sym c.begins_operator.ensures ∙ c.loop-c-test.false) c.loop-c.invariant

pub chain::links-loop-c-init : goal.chain::links-loop-c-init
chain::links-loop-c-init t c = rw c.new-found.ensures.empty (nothing_before _)

pub postfix::parts-loop-c-init : goal.postfix::parts-loop-c-init
unfolding e.parts
postfix::parts-loop-c-init t c = rw c.new-found.ensures.empty (nothing_before_in _)

pub postfix::parts-returns-in_err-next : goal.postfix::parts-returns-in_err-next
postfix::parts-returns-in_err-next t c =
    let p = err_from_is_err_and c.from_residual.result c.from_residual.ensures.1 in
    rw (p.1, p.2) ((loop_parts c.args.c.names.now c.args.c.levels).fails c.in_err-next.field-0.0 c.loop-c.found c.loop-c.called c.loop-c.rest.now _ (sym c.begins_part.ensures ∙ c.loop-c-test.true) c.in_err-next.ensures c.loop-c.invariant)

pub postfix::parts-loop-c-smaller : goal.postfix::parts-loop-c-smaller
postfix::parts-loop-c-smaller t c = (loop_parts c.args.c.names.now c.args.c.levels).shorter c.loop-c.called c.loop-c.rest.now c.in_ok-next.next c.in_ok-next.is_call c.in_ok-next.after.now c.in_ok-next.ensures

pub postfix::parts-loop-c-preserved : goal.postfix::parts-loop-c-preserved
postfix::parts-loop-c-preserved t c = rw c.in_ok-push.ensures.ok ((loop_parts c.args.c.names.now c.args.c.levels).turn c.loop-c.found c.loop-c.called c.loop-c.rest.now c.in_ok-next.next c.in_ok-next.is_call c.in_ok-next.after.now _ (sym c.begins_part.ensures ∙ c.loop-c-test.true) c.in_ok-next.ensures c.loop-c.invariant)

pub postfix::parts-returns : goal.postfix::parts-returns
postfix::parts-returns t c = (loop_parts c.args.c.names.now c.args.c.levels).stops c.loop-c.found c.loop-c.called c.loop-c.rest.now _ (sym c.begins_part.ensures ∙ c.loop-c-test.false) c.loop-c.invariant

pub types::more_ty_args-returns-in_err-next : goal.types::more_ty_args-returns-in_err-next
types::more_ty_args-returns-in_err-next t c =
    let p = err_from_is_err_and c.from_residual.result c.from_residual.ensures.1 in
    rw (p.1, p.2) ((loop_ty_args c.args.c.names.now c.args.c.levels).fails c.in_err-next.field-0.0 c.loop-c.found c.loop-c.closed c.loop-c.rest.now _ (sym c.follows.ensures ∙ c.loop-c-test.true) c.in_err-next.ensures c.loop-c.invariant)

pub types::more_ty_args-loop-c-smaller : goal.types::more_ty_args-loop-c-smaller
types::more_ty_args-loop-c-smaller t c = (loop_ty_args c.args.c.names.now c.args.c.levels).shorter c.loop-c.closed c.loop-c.rest.now c.in_ok-next.next c.in_ok-next.both c.in_ok-next.after.now c.in_ok-next.ensures

pub types::more_ty_args-loop-c-preserved : goal.types::more_ty_args-loop-c-preserved
types::more_ty_args-loop-c-preserved t c = rw c.in_ok-push.ensures.ok ((loop_ty_args c.args.c.names.now c.args.c.levels).turn c.loop-c.found c.loop-c.closed c.loop-c.rest.now c.in_ok-next.next c.in_ok-next.both c.in_ok-next.after.now _ (sym c.follows.ensures ∙ c.loop-c-test.true) c.in_ok-next.ensures c.loop-c.invariant)

pub types::more_ty_args-returns : goal.types::more_ty_args-returns
types::more_ty_args-returns t c = (loop_ty_args c.args.c.names.now c.args.c.levels).stops c.loop-c.found c.loop-c.closed c.loop-c.rest.now _ (sym c.follows.ensures ∙ c.loop-c-test.false) c.loop-c.invariant

pub types::ty_args-returns-in_err-both-2 : goal.types::ty_args-returns-in_err-both-2
types::ty_args-returns-in_err-both-2 t c =
    let p = err_from_is_err_and c.from_residual-in_err-both-2.result c.from_residual-in_err-both-2.ensures.1 in
    rw (p.1, p.2, ty_args_by c.args.c.names.now c.args.c.levels c.args.inside c.args.ts.now c.in_ok-first.first c.in_ok-first.closed c.in_ok-first.rest.now c.in_ok-found-2.found c.in_ok-found-2.closed c.in_ok-found-2.rest.now (sym c.begins_close.ensures ∙ c.if-begins_close.false) c.in_ok-first.ensures (rw c.in_ok-found.ensures at c.in_ok-found-2.ensures)) (fails_through c.in_err-both-2.field-0.0 (e.close_unless c.in_ok-found-2.closed c.args.inside c.in_ok-found-2.rest.now) _ (λ f k. ap (λ o. and_then o (λ b. pure (c.in_ok-found-2.found, b))) k) c.in_err-both-2.ensures)

pub types::ty_args-returns : goal.types::ty_args-returns
types::ty_args-returns t c = ty_args_by c.args.c.names.now c.args.c.levels c.args.inside c.args.ts.now c.in_ok-first.first c.in_ok-first.closed c.in_ok-first.rest.now c.in_ok-found-2.found c.in_ok-found-2.closed c.in_ok-found-2.rest.now (sym c.begins_close.ensures ∙ c.if-begins_close.false) c.in_ok-first.ensures (rw c.in_ok-found.ensures at c.in_ok-found-2.ensures) ∙ ap (λ o. and_then o (λ b. pure (c.in_ok-found-2.found, b))) c.in_ok-both-2.ensures
