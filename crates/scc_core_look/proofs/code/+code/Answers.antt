use Rattle.std.proofs.Common.{◌≡◌, ◌<◌, ◌≤◌, ◌∙◌, ap, sym, true, length, arith}
use Rattle.scc_core_view.specs.Codes.{code_of}
use Rattle.scc_core_look.specs.Fits.{good_code}
use Rattle.scc_core_look.proofs.Alike.{taken-whole}
use Rattle.scc_core_look.proofs.Good.{goes_on, if_told}
use Rattle.scc_core_look.proofs.code.+code.Goals as goal

pub code_fits-loop-s-preserved : goal.code_fits-loop-s-preserved
code_fits-loop-s-preserved t c = λ e ground.
    let h : c.loop-s.s-index < length c.args.list.now = omega arith in
    goes_on c.args.g.now c.args.list.now c.loop-s.s-index c.s-item.result h c.s-item.is c.loop-s.fit c.in_ok-statement_fits.field-0 c.both-fit.result
    (λ f. c.loop-s.invariant f ground) (λ f. c.in_ok-statement_fits.ensures f ground) c.both-fit.ensures e

pub code_fits-returns : goal.code_fits-returns
code_fits-returns t c = λ e ground.
    let h : length c.args.list.now ≤ c.loop-s.s-index = omega arith in
    ap (λ xs. good_code c.args.g.now (code_of xs)) (sym (taken-whole c.args.list.now c.loop-s.s-index h)) ∙ c.loop-s.invariant e ground

pub statement_fits-returns-in_ok-other-in-If : goal.statement_fits-returns-in_ok-other-in-If
statement_fits-returns-in_ok-other-in-If t c = λ e ground.
    if_told c.args.g.now c.args.s.now c.in-If.test c.in-If.yes c.in-If.no c.as_slice.result.now c.as_slice-in-If.result.now c.in_ok-fit-in-If.fit c.in_ok-first-in-If.first c.in_ok-other-in-If.other c.both.result c.both-in-If.result
    c.in-If.is c.as_slice.ensures.elements c.as_slice-in-If.ensures.elements (λ f. c.in_ok-fit-in-If.ensures f ground) (λ f. c.in_ok-first-in-If.ensures f ground) (λ f. c.in_ok-other-in-If.ensures f ground) c.both.ensures c.both-in-If.ensures e
