use Rattle.std.proofs.Common.{arith, refl, get_or}
use Rattle.scc_blocks.proofs.Declaring.{before_next}
use Rattle.scc_blocks.proofs.declare.behind.Goals as goal

pub loop-at-preserved : goal.loop-at-preserved
loop-at-preserved c =
    let locals = c.args.locals.now in
    let i = c.loop-at.at-index in
    before_next c.args.cells.now locals i c.loop-at.first c.max-first.result (get_or locals i 0) c.in_ok-number.number c.in_ok-next.field-0 (omega arith) refl c.in_ok-next.ensures c.max-first.ensures c.in_ok-number.ensures c.loop-at.invariant
