use Rattle.std.proofs.Common.{arith, length, ap, sym, ◌∙◌, Some}
use Rattle.scc_trace.proofs.Digits.{room, digits_step, number_step}
use Rattle.scc_trace.proofs.value.number.Goals as goal

pub overflow_mul-n : goal.overflow_mul-n
overflow_mul-n c = omega (arith, room c.loop-b.n c.loop-b.b-index (length c.args.digits.now) c.loop-b.invariant.1 c.loop-b-test.true c.requires)

pub overflow_add-n : goal.overflow_add-n
overflow_add-n c =
    omega (arith, room c.loop-b.n c.loop-b.b-index (length c.args.digits.now) c.loop-b.invariant.1 c.loop-b-test.true c.requires, c.in_ok-digit.ensures.small, c.from.ensures)

pub loop-b-preserved : goal.loop-b-preserved
loop-b-preserved c =
    (number_step c.loop-b.n c.from.result c.loop-b.b-index _ c.args.digits.now c.loop-b-test.true (sym c.in_ok-digit.ensures.is ∙ ap Some (sym c.from.ensures)) c.loop-b.invariant.0, digits_step c.loop-b.n c.from.result c.loop-b.b-index c.loop-b.invariant.1 (omega (arith, c.in_ok-digit.ensures.small, c.from.ensures)))
