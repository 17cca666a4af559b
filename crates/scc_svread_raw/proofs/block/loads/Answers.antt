use Rattle.std.proofs.Common.{◌∙◌, sym}
use Rattle.std.proofs.lemmas.Result.{err_from_is_err_and}
use Rattle.scc_svread_grammar.specs.Reader.{loads}
use Rattle.scc_svread_expressions.proofs.Turns.{turns_loads}
use Rattle.scc_svread_raw.proofs.block.loads.Goals as goal

pub returns-in_err-next : goal.returns-in_err-next
unfolding loads
returns-in_err-next c =
    let p = err_from_is_err_and c.from_residual.result c.from_residual.ensures.1 in
    rw (p.1, p.2) (turns_loads.fails c.in_err-next.field-0.0 c.loop-alloc.found c.loop-alloc.rest.now _ (sym c.is_next.ensures ∙ c.loop-alloc-test.true) c.in_err-next.ensures c.loop-alloc.invariant)

pub loop-alloc-smaller : goal.loop-alloc-smaller
loop-alloc-smaller c = turns_loads.shorter c.loop-alloc.rest.now c.in_ok-next.next c.in_ok-next.after.now c.in_ok-next.ensures

pub loop-alloc-preserved : goal.loop-alloc-preserved
loop-alloc-preserved c = rw c.in_ok-push.ensures.ok (turns_loads.turn c.loop-alloc.found c.loop-alloc.rest.now c.in_ok-next.next c.in_ok-next.after.now _ (sym c.is_next.ensures ∙ c.loop-alloc-test.true) c.in_ok-next.ensures c.loop-alloc.invariant)

pub returns : goal.returns
unfolding loads
returns c = turns_loads.stops c.loop-alloc.found c.loop-alloc.rest.now _ (sym c.is_next.ensures ∙ c.loop-alloc-test.false) c.loop-alloc.invariant
