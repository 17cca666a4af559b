use Rattle.std.proofs.Common.{sym, ◌∙◌}
use Rattle.std.proofs.lemmas.Result.{err_from_is_err_and}
use Rattle.scc_grammar_spec.specs.Bodies.{begun}
use Rattle.scc_grammar_terminals.specs.Names.{no_names}
use Rattle.scc_grammar_spec.specs.ParseFile.{members}
use Rattle.scc_grammar.proofs.ItemLoops.{loop_members, member_next}
use Rattle.scc_grammar.proofs.member.all_members.Goals as goal

pub returns-in_err-after : goal.returns-in_err-after
unfolding members
returns-in_err-after c =
    let p = err_from_is_err_and c.from_residual.result c.from_residual.ensures.1 in
    rw (p.1, p.2) ((loop_members c.args.levels).fails c.in_err-after.field-0.0 _ c.loop-alloc.rest.now _ (member_next (begun no_names) c.loop-alloc.rest.now ∙ sym c.begins_not_brace_close.ensures ∙ c.loop-alloc-test.true) c.in_err-after.ensures c.loop-alloc.invariant)

pub loop-alloc-smaller : goal.loop-alloc-smaller
loop-alloc-smaller c = (loop_members c.args.levels).shorter _ c.loop-alloc.rest.now _ c.in_ok-after.after.now c.in_ok-after.ensures

pub loop-alloc-preserved : goal.loop-alloc-preserved
loop-alloc-preserved c = (loop_members c.args.levels).turn _ c.loop-alloc.rest.now _ c.in_ok-after.after.now _ (member_next (begun no_names) c.loop-alloc.rest.now ∙ sym c.begins_not_brace_close.ensures ∙ c.loop-alloc-test.true) c.in_ok-after.ensures c.loop-alloc.invariant

pub returns : goal.returns
unfolding members
returns c = (loop_members c.args.levels).stops _ c.loop-alloc.rest.now _ (member_next (begun no_names) c.loop-alloc.rest.now ∙ sym c.begins_not_brace_close.ensures ∙ c.loop-alloc-test.false) c.loop-alloc.invariant
