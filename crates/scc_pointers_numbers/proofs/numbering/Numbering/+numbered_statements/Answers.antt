use Rattle.std.proofs.Common.{◌≡◌, sym, ap, subst, ◌∙◌, arith, ◌<◌, length}
use Rattle.std.proofs.lemmas.Result.{IfOk-weaker}
use Rattle.scc_core.specs.declared.stmt.CoreNode.TheVariants as node
use Rattle.scc_core_spec.specs.Renumbered.{renamed_code}
use Rattle.scc_core_view.specs.Codes.{code_of}
use Rattle.scc_pointers_numbers.proofs.Statements.{aim_renames, block_renames, exit_renames, if_renames, list_renames, loop_renames, put_renames, wait_renames}
use Rattle.scc_pointers_numbers.proofs.numbering.Numbering.+numbered_statements.Goals as goal

pub stmts-loop-s-preserved : goal.stmts-loop-s-preserved
stmts-loop-s-preserved t c = λ f h.
    let i : c.loop-s.s-index < length c.args.list.now = omega arith in
    list_renames f c.args.list.now c.loop-s.made c.push.new.self c.loop-s.s-index c.s-item.result c.in_ok-stmt.field-0 i c.s-item.is c.in_ok-push.ensures.ok (c.in_ok-stmt.ensures f h) (c.loop-s.invariant f h)

pub stmt-returns-in_ok-no-in-If : goal.stmt-returns-in_ok-no-in-If
stmt-returns-in_ok-no-in-If t c = λ f h.
    let one : c.as_slice.result.now ≡ c.in-If.yes = c.as_slice.ensures.elements in
    let two : c.as_slice-in-If.result.now ≡ c.in-If.no = c.as_slice-in-If.ensures.elements in
    if_renames f c.args.s.now c.in-If.test c.in_ok-test-in-If.test c.in-If.yes c.in-If.no c.in_ok-yes-in-If.yes c.in_ok-no-in-If.no c.in-If.is (c.in_ok-test-in-If.ensures f h)
    (c.in_ok-yes-in-If.ensures f h ∙ ap (λ x. renamed_code f (code_of x)) one) (c.in_ok-no-in-If.ensures f h ∙ ap (λ x. renamed_code f (code_of x)) two)

pub stmt-returns-in_ok-body-in-Block : goal.stmt-returns-in_ok-body-in-Block
stmt-returns-in_ok-body-in-Block t c = λ f h.
    block_renames f c.args.s.now c.in-Block.body c.in_ok-body-in-Block.body c.in-Block.is (c.in_ok-body-in-Block.ensures f h ∙ ap (λ x. renamed_code f (code_of x)) c.as_slice-in-Block.ensures.elements)

pub stmt-returns-in_ok-body-in-Loop : goal.stmt-returns-in_ok-body-in-Loop
stmt-returns-in_ok-body-in-Loop t c = λ f h.
    loop_renames f c.args.s.now c.in-Loop.count c.in_ok-count-in-Loop.count c.in-Loop.body c.in_ok-body-in-Loop.body c.in-Loop.is (c.in_ok-count-in-Loop.ensures f h) (c.in_ok-body-in-Loop.ensures f h ∙ ap (λ x. renamed_code f (code_of x)) c.as_slice-in-Loop.ensures.elements)

pub stmt-returns-in-Assign : goal.stmt-returns-in-Assign
stmt-returns-in-Assign t c = λ f h. IfOk-weaker c.put.result _ _ (λ z g. put_renames f c.args.s.now c.in-Assign.left c.in-Assign.value c.in-Assign.is z g) (c.put.ensures f h)

pub stmt-returns-in-Alias : goal.stmt-returns-in-Alias
stmt-returns-in-Alias t c = λ f h. IfOk-weaker c.aim.result _ _ (λ z g. aim_renames f c.args.s.now c.in-Alias.to c.in-Alias.target c.in-Alias.is z g) (c.aim.ensures f h)

pub stmt-returns-in-Exit : goal.stmt-returns-in-Exit
stmt-returns-in-Exit t c = λ f h. exit_renames f c.args.s.now _ c.in-Exit.is

pub stmt-returns-in-Wait : goal.stmt-returns-in-Wait
stmt-returns-in-Wait t c = λ f h. wait_renames f c.args.s.now _ c.in-Wait.is
