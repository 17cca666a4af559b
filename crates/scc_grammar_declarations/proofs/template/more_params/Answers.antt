use Rattle.std.proofs.Common.{sym, ◌∙◌}
use Rattle.std.proofs.lemmas.Result.{err_from_is_err_and}
use Rattle.scc_grammar_spec.specs.ParseItems.{params_by}
use Rattle.scc_grammar_declarations.proofs.ListLoops.{loop_params}
use Rattle.scc_grammar_declarations.proofs.template.more_params.Goals as goal

pub returns-in_err-next : goal.returns-in_err-next
returns-in_err-next c =
    let p = err_from_is_err_and c.from_residual.result c.from_residual.ensures.1 in
    rw (p.1, p.2) ((loop_params c.args.levels).fails c.in_err-next.field-0.0 c.loop-alloc.found (params_by c.loop-alloc.names c.loop-alloc.closed) c.loop-alloc.rest.now _ (sym c.follows.ensures ∙ c.loop-alloc-test.true) c.in_err-next.ensures c.loop-alloc.invariant)

pub loop-alloc-smaller : goal.loop-alloc-smaller
loop-alloc-smaller c = (loop_params c.args.levels).shorter (params_by c.loop-alloc.names c.loop-alloc.closed) c.loop-alloc.rest.now c.in_ok-next.next (params_by _ c.in_ok-next.both) c.in_ok-next.after.now c.in_ok-next.ensures

pub loop-alloc-preserved : goal.loop-alloc-preserved
loop-alloc-preserved c = rw c.in_ok-push.ensures.ok ((loop_params c.args.levels).turn c.loop-alloc.found (params_by c.loop-alloc.names c.loop-alloc.closed) c.loop-alloc.rest.now c.in_ok-next.next (params_by _ c.in_ok-next.both) c.in_ok-next.after.now _ (sym c.follows.ensures ∙ c.loop-alloc-test.true) c.in_ok-next.ensures c.loop-alloc.invariant)

pub returns : goal.returns
returns c = (loop_params c.args.levels).stops c.loop-alloc.found (params_by c.loop-alloc.names c.loop-alloc.closed) c.loop-alloc.rest.now _ (sym c.follows.ensures ∙ c.loop-alloc-test.false) c.loop-alloc.invariant
