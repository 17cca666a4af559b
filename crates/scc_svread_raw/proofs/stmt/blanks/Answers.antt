use Rattle.std.proofs.lemmas.Result.{err_from_is_err_and}
use Rattle.scc_svread_raw.proofs.Blanks.{blank_passed, blank_fails, no_blanks}
use Rattle.scc_svread_raw.proofs.stmt.blanks.Goals as goal

pub returns-in_err-after : goal.returns-in_err-after
returns-in_err-after c =
    let p = err_from_is_err_and c.from_residual.result c.from_residual.ensures.1 in
    rw (p.1, p.2) (blank_fails c.in_err-after.field-0.0 c.loop-left.left c.loop-left.rest.now _ c.loop-left-test.true c.in_err-after.ensures c.loop-left.invariant)

pub loop-left-preserved : goal.loop-left-preserved
loop-left-preserved c = blank_passed c.loop-left.left c.loop-left.rest.now c.in_ok-after.after.now _ c.loop-left-test.true c.in_ok-after.ensures c.loop-left.invariant

pub returns : goal.returns
returns c = no_blanks c.loop-left.left c.loop-left.rest.now _ c.loop-left-test.false c.loop-left.invariant
