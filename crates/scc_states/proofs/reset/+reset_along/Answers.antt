use Rattle.std.proofs.Common.{◌≡◌, ◌<◌, ◌∙◌, length, arith, sym, ap, subst, true, false, Some}
use Rattle.std.proofs.lemmas.Result.{err_from_is_err_and}
use Rattle.scc_core_flow.specs.Live.{Decides, DecidesAll}
use Rattle.scc_core_flow.proofs.Tests.{tests_here, each_if, each_block, each_loop}
use Rattle.scc_core_spec.specs.Split.{along, first_along}
use Rattle.scc_core_spec.specs.Static.{goes}
use Rattle.scc_core_view.specs.Codes.{code_of}
use Rattle.scc_core_view.specs.Terms.{term_of}
use Rattle.scc_states_cut.specs.Limits.{Stops}
use Rattle.scc_states.specs.Resets.{IsAlong, Loads, LoadsAll, ending}
use Rattle.scc_states.proofs.Along.{told}
use Rattle.scc_states.proofs.Assigns.{assigns_here, given_if, given_block, given_loop}
use Rattle.scc_states.proofs.Loaded.{next_along, ended_along, out_along, stopped_along, end_along, plain_on, plain_stops, along_yes, along_no, block_stops, loop_stops}
use Rattle.scc_states.proofs.reset.+reset_along.Goals as goal

pub along-loop-s-preserved : goal.along-loop-s-preserved
along-loop-s-preserved t c = λ cs d l.
    let ss = c.args.body.now in
    let i : c.loop-s.s-index < length ss = omega arith in
    let here = c.in_ok-along_one.ensures.along cs (tests_here (Decides c.args.known cs) ss c.loop-s.s-index c.s-item.result i c.s-item.is d) (assigns_here (Loads c.args.known cs) ss c.loop-s.s-index c.s-item.result i c.s-item.is l) in
    next_along cs ss c.loop-s.s-index c.s-item.result (along cs (code_of ss)) i c.s-item.is (here ∙ ap ending c.in-On.is) (c.loop-s.invariant cs d l)

pub along-returns-in-Ended-clause-along : goal.along-returns-in-Ended-clause-along
along-returns-in-Ended-clause-along t c = λ cs d l.
    let ss = c.args.body.now in
    let i : c.loop-s.s-index < length ss = omega arith in
    let here = c.in_ok-along_one.ensures.along cs (tests_here (Decides c.args.known cs) ss c.loop-s.s-index c.s-item.result i c.s-item.is d) (assigns_here (Loads c.args.known cs) ss c.loop-s.s-index c.s-item.result i c.s-item.is l) in
    ended_along cs ss c.loop-s.s-index c.s-item.result (along cs (code_of ss)) i c.s-item.is (here ∙ ap ending c.in-Ended.is) (c.loop-s.invariant cs d l)

pub along-returns-in-Out-clause-along : goal.along-returns-in-Out-clause-along
along-returns-in-Out-clause-along t c = λ cs d l.
    let ss = c.args.body.now in
    let i : c.loop-s.s-index < length ss = omega arith in
    let here = c.in_ok-along_one.ensures.along cs (tests_here (Decides c.args.known cs) ss c.loop-s.s-index c.s-item.result i c.s-item.is d) (assigns_here (Loads c.args.known cs) ss c.loop-s.s-index c.s-item.result i c.s-item.is l) in
    out_along cs ss c.loop-s.s-index c.s-item.result (along cs (code_of ss)) c.in-Out.n i c.s-item.is (here ∙ ap ending c.in-Out.is) (c.loop-s.invariant cs d l)

pub along-returns-in_err-along_one-clause-along : goal.along-returns-in_err-along_one-clause-along
along-returns-in_err-along_one-clause-along t c = λ cs d l.
    let ss = c.args.body.now in
    let i : c.loop-s.s-index < length ss = omega arith in
    let here = c.in_err-along_one.ensures.along cs (tests_here (Decides c.args.known cs) ss c.loop-s.s-index c.s-item.result i c.s-item.is d) (assigns_here (Loads c.args.known cs) ss c.loop-s.s-index c.s-item.result i c.s-item.is l) in
    let p = err_from_is_err_and c.from_residual.result c.from_residual.ensures.1 in
    rw (p.1, p.2) (stopped_along cs ss c.loop-s.s-index c.s-item.result (along cs (code_of ss)) c.in_err-along_one.field-0.0 i c.s-item.is here (c.loop-s.invariant cs d l))

pub along-returns-clause-along : goal.along-returns-clause-along
along-returns-clause-along t c = λ cs d l. end_along cs c.args.body.now c.loop-s.s-index (along cs (code_of c.args.body.now)) (omega arith) (c.loop-s.invariant cs d l)

pub along_one-returns-in_err-inside-clause-along : goal.along_one-returns-in_err-inside-clause-along
along_one-returns-in_err-inside-clause-along t c = λ cs d l.
    let p = err_from_is_err_and c.from_residual.result c.from_residual.ensures.1 in
    rw (p.1, p.2) (plain_stops cs c.args.s.now c.in_err-inside.field-0.0 (sym c.opens.ensures ∙ c.if-not-opens.true) (c.in_err-inside.ensures.first cs d l))

pub along_one-returns-then-not-opens-clause-along : goal.along_one-returns-then-not-opens-clause-along
along_one-returns-then-not-opens-clause-along t c = λ cs d l. plain_on cs c.args.s.now (sym c.opens.ensures ∙ c.if-not-opens.true) (c.in_ok-inside.ensures.first cs d l)

pub along_one-returns-in_err-way-in-Block-clause-along : goal.along_one-returns-in_err-way-in-Block-clause-along
along_one-returns-in_err-way-in-Block-clause-along t c = λ cs d l.
    let k = c.args.known in
    let e = c.in_err-way-in-Block.field-0.0 in
    let same = c.as_slice-in-Block.ensures.elements in
    let body = c.in_err-way-in-Block.ensures.along cs (subst (DecidesAll k cs) (sym same) (each_block (Decides k cs) c.args.s.now c.in-Block.body c.in-Block.is d))
    (subst (LoadsAll k cs) (sym same) (given_block (Loads k cs) c.args.s.now c.in-Block.body c.in-Block.is l)) in
    let p = err_from_is_err_and c.from_residual-in_err-way-in-Block.result c.from_residual-in_err-way-in-Block.ensures.1 in
    rw (p.1, p.2) (block_stops cs c.args.s.now c.in-Block.body e c.in-Block.is (sym c.opens.ensures ∙ c.if-not-opens.false) (subst (λ ss. Stops (told (first_along (along cs (code_of ss)))) e) same body))

pub along_one-returns-in_err-way-in-Loop-clause-along : goal.along_one-returns-in_err-way-in-Loop-clause-along
along_one-returns-in_err-way-in-Loop-clause-along t c = λ cs d l.
    let k = c.args.known in
    let e = c.in_err-way-in-Loop.field-0.0 in
    let same = c.as_slice-in-Loop.ensures.elements in
    let body = c.in_err-way-in-Loop.ensures.along cs (subst (DecidesAll k cs) (sym same) (each_loop (Decides k cs) c.args.s.now c.in-Loop.count c.in-Loop.body c.in-Loop.is d))
    (subst (LoadsAll k cs) (sym same) (given_loop (Loads k cs) c.args.s.now c.in-Loop.count c.in-Loop.body c.in-Loop.is l)) in
    let p = err_from_is_err_and c.from_residual-in_err-way-in-Loop.result c.from_residual-in_err-way-in-Loop.ensures.1 in
    rw (p.1, p.2) (loop_stops cs c.args.s.now c.in-Loop.count c.in-Loop.body e c.in-Loop.is (sym c.opens.ensures ∙ c.if-not-opens.false) (subst (λ ss. Stops (told (first_along (along cs (code_of ss)))) e) same body))

pub along_one-returns-in-Some-true-clause-along : goal.along_one-returns-in-Some-true-clause-along
along_one-returns-in-Some-true-clause-along t c = λ cs d l.
    let k = c.args.known in
    let tests = each_if (Decides k cs) c.args.s.now c.in-If.test c.in-If.yes c.in-If.no c.in-If.is d in
    let given = given_if (Loads k cs) c.args.s.now c.in-If.test c.in-If.yes c.in-If.no c.in-If.is l in
    let g : Some true ≡ goes cs (term_of c.in-If.test) = ap Some (sym c.in-Some-true.field-0-test) ∙ sym c.in-Some-true.is ∙ c.goes.ensures.known ∙ tests.0 in
    let same = c.as_slice.ensures.elements in
    let yes = c.along.ensures.along cs (subst (DecidesAll k cs) (sym same) tests.1) (subst (LoadsAll k cs) (sym same) given.0) in
    along_yes cs c.args.s.now c.in-If.test c.in-If.yes c.in-If.no c.along.result c.in-If.is (sym c.opens.ensures ∙ c.if-not-opens.false) (sym g) (subst (λ ss. IsAlong (along cs (code_of ss)) c.along.result) same yes)

pub along_one-returns-in-Some-false-clause-along : goal.along_one-returns-in-Some-false-clause-along
along_one-returns-in-Some-false-clause-along t c = λ cs d l.
    let k = c.args.known in
    let tests = each_if (Decides k cs) c.args.s.now c.in-If.test c.in-If.yes c.in-If.no c.in-If.is d in
    let given = given_if (Loads k cs) c.args.s.now c.in-If.test c.in-If.yes c.in-If.no c.in-If.is l in
    let g : Some false ≡ goes cs (term_of c.in-If.test) = ap Some (sym c.in-Some-false.field-0-test) ∙ sym c.in-Some-false.is ∙ c.goes.ensures.known ∙ tests.0 in
    let same = c.as_slice-in-Some-false.ensures.elements in
    let no = c.along-in-Some-false.ensures.along cs (subst (DecidesAll k cs) (sym same) tests.2) (subst (LoadsAll k cs) (sym same) given.1) in
    along_no cs c.args.s.now c.in-If.test c.in-If.yes c.in-If.no c.along-in-Some-false.result c.in-If.is (sym c.opens.ensures ∙ c.if-not-opens.false) (sym g) (subst (λ ss. IsAlong (along cs (code_of ss)) c.along-in-Some-false.result) same no)
