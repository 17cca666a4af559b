use Rattle.std.proofs.Common.{sym, ◌∙◌}
use Rattle.std.proofs.lemmas.Result.{err_from_is_err_and}
use Rattle.scc_grammar_spec.specs.Bodies as b
use Rattle.scc_grammar.proofs.ItemLoops.{loop_file}
use Rattle.scc_grammar.proofs.file.parts.Goals as goal

pub returns-in_err-after : goal.returns-in_err-after
returns-in_err-after c =
    let p = err_from_is_err_and c.from_residual.result c.from_residual.ensures.1 in
    rw (p.1, p.2) ((loop_file c.args.levels).fails c.in_err-after.field-0.0 (b.body_of c.loop-alloc.names c.loop-alloc.found.items c.loop-alloc.found.fields) c.loop-alloc.rest.now _ (sym c.some_next.ensures ∙ c.loop-alloc-test.true) c.in_err-after.ensures c.loop-alloc.invariant)

pub loop-alloc-smaller : goal.loop-alloc-smaller
loop-alloc-smaller c = (loop_file c.args.levels).shorter (b.body_of c.loop-alloc.names c.loop-alloc.found.items c.loop-alloc.found.fields) c.loop-alloc.rest.now _ c.in_ok-after.after.now c.in_ok-after.ensures

pub loop-alloc-preserved : goal.loop-alloc-preserved
loop-alloc-preserved c = (loop_file c.args.levels).turn (b.body_of c.loop-alloc.names c.loop-alloc.found.items c.loop-alloc.found.fields) c.loop-alloc.rest.now _ c.in_ok-after.after.now _ (sym c.some_next.ensures ∙ c.loop-alloc-test.true) c.in_ok-after.ensures c.loop-alloc.invariant

pub returns : goal.returns
returns c = (loop_file c.args.levels).stops (b.body_of c.loop-alloc.names c.loop-alloc.found.items c.loop-alloc.found.fields) c.loop-alloc.rest.now _ (sym c.some_next.ensures ∙ c.loop-alloc-test.false) c.loop-alloc.invariant
