use Rattle.std.proofs.Common.{◌≡◌, ◌<◌, length, arith, sym, subst, None}
use Rattle.std.proofs.lemmas.Result.{err_from_is_err_and}
use Rattle.scc_core_flow.specs.Live.{Decides, DecidesAll}
use Rattle.scc_core_flow.proofs.Tests.{tests_here, each_if, each_block, each_loop}
use Rattle.scc_core_spec.specs.Split.{unloaded}
use Rattle.scc_core_view.specs.Codes.{code_of}
use Rattle.scc_states_cut.specs.Limits.{Stops}
use Rattle.scc_states.specs.Resets.{IsLoaded, Loads, LoadsAll}
use Rattle.scc_states.proofs.Along.{told}
use Rattle.scc_states.proofs.Assigns.{assigns_here, given_if, given_block, given_loop}
use Rattle.scc_states.proofs.Loaded.{next_loaded, stops_loaded, end_loaded, loaded_if, stops_yes, loaded_block, loaded_loop}
use Rattle.scc_states.proofs.reset.+reset_inside.Goals as goal

pub each-loop-s-preserved : goal.each-loop-s-preserved
each-loop-s-preserved t c = λ cs d l.
    let ss = c.args.body.now in
    let i : c.loop-s.s-index < length ss = omega arith in
    let here = c.in_ok-inside.ensures.first cs (tests_here (Decides c.args.known cs) ss c.loop-s.s-index c.s-item.result i c.s-item.is d) (assigns_here (Loads c.args.known cs) ss c.loop-s.s-index c.s-item.result i c.s-item.is l) in
    next_loaded cs ss c.loop-s.s-index c.s-item.result (unloaded cs (code_of ss)) i c.s-item.is here (c.loop-s.invariant cs d l)

pub each-returns-in_err-inside-clause-first : goal.each-returns-in_err-inside-clause-first
each-returns-in_err-inside-clause-first t c = λ cs d l.
    let ss = c.args.body.now in
    let i : c.loop-s.s-index < length ss = omega arith in
    let here = c.in_err-inside.ensures.first cs (tests_here (Decides c.args.known cs) ss c.loop-s.s-index c.s-item.result i c.s-item.is d) (assigns_here (Loads c.args.known cs) ss c.loop-s.s-index c.s-item.result i c.s-item.is l) in
    let p = err_from_is_err_and c.from_residual.result c.from_residual.ensures.1 in
    rw (p.1, p.2) (stops_loaded cs ss c.loop-s.s-index c.s-item.result (unloaded cs (code_of ss)) c.in_err-inside.field-0.0 i c.s-item.is here (c.loop-s.invariant cs d l))

pub each-returns-clause-first : goal.each-returns-clause-first
each-returns-clause-first t c = λ cs d l. end_loaded cs c.args.body.now c.loop-s.s-index (unloaded cs (code_of c.args.body.now)) (omega arith) (c.loop-s.invariant cs d l)

pub inside-returns-in_err-each-in-If-clause-first : goal.inside-returns-in_err-each-in-If-clause-first
inside-returns-in_err-each-in-If-clause-first t c = λ cs d l.
    let k = c.args.known in
    let tests = each_if (Decides k cs) c.args.s.now c.in-If.test c.in-If.yes c.in-If.no c.in-If.is d in
    let given = given_if (Loads k cs) c.args.s.now c.in-If.test c.in-If.yes c.in-If.no c.in-If.is l in
    let e = c.in_err-each-in-If.field-0.0 in
    let same = c.as_slice.ensures.elements in
    let yes = c.in_err-each-in-If.ensures.first cs (subst (DecidesAll k cs) (sym same) tests.1) (subst (LoadsAll k cs) (sym same) given.0) in
    let p = err_from_is_err_and c.from_residual-in_err-each-in-If.result c.from_residual-in_err-each-in-If.ensures.1 in
    rw (p.1, p.2) (stops_yes cs c.args.s.now c.in-If.test c.in-If.yes c.in-If.no e c.in-If.is (c.in_ok-tested-in-If.ensures.first cs tests.0) (subst (λ ss. Stops (told (unloaded cs (code_of ss))) e) same yes))

pub inside-returns-in_ok-each-in-If-clause-first : goal.inside-returns-in_ok-each-in-If-clause-first
inside-returns-in_ok-each-in-If-clause-first t c = λ cs d l.
    let k = c.args.known in
    let tests = each_if (Decides k cs) c.args.s.now c.in-If.test c.in-If.yes c.in-If.no c.in-If.is d in
    let given = given_if (Loads k cs) c.args.s.now c.in-If.test c.in-If.yes c.in-If.no c.in-If.is l in
    let same = c.as_slice.ensures.elements in
    let other = c.as_slice-in-If.ensures.elements in
    let yes = c.in_ok-each-in-If.ensures.first cs (subst (DecidesAll k cs) (sym same) tests.1) (subst (LoadsAll k cs) (sym same) given.0) in
    let no = c.each-in-If.ensures.first cs (subst (DecidesAll k cs) (sym other) tests.2) (subst (LoadsAll k cs) (sym other) given.1) in
    loaded_if cs c.args.s.now c.in-If.test c.in-If.yes c.in-If.no c.each-in-If.result c.in-If.is (c.in_ok-tested-in-If.ensures.first cs tests.0)
    (subst (λ ss. unloaded cs (code_of ss) ≡ None) same yes) (subst (λ ss. IsLoaded (unloaded cs (code_of ss)) c.each-in-If.result) other no)

pub inside-returns-in-Block-clause-first : goal.inside-returns-in-Block-clause-first
inside-returns-in-Block-clause-first t c = λ cs d l.
    let k = c.args.known in
    let same = c.as_slice-in-Block.ensures.elements in
    let body = c.each-in-Block.ensures.first cs (subst (DecidesAll k cs) (sym same) (each_block (Decides k cs) c.args.s.now c.in-Block.body c.in-Block.is d))
    (subst (LoadsAll k cs) (sym same) (given_block (Loads k cs) c.args.s.now c.in-Block.body c.in-Block.is l)) in
    loaded_block cs c.args.s.now c.in-Block.body c.each-in-Block.result c.in-Block.is (subst (λ ss. IsLoaded (unloaded cs (code_of ss)) c.each-in-Block.result) same body)

pub inside-returns-in-Loop-clause-first : goal.inside-returns-in-Loop-clause-first
inside-returns-in-Loop-clause-first t c = λ cs d l.
    let k = c.args.known in
    let same = c.as_slice-in-Loop.ensures.elements in
    let body = c.each-in-Loop.ensures.first cs (subst (DecidesAll k cs) (sym same) (each_loop (Decides k cs) c.args.s.now c.in-Loop.count c.in-Loop.body c.in-Loop.is d))
    (subst (LoadsAll k cs) (sym same) (given_loop (Loads k cs) c.args.s.now c.in-Loop.count c.in-Loop.body c.in-Loop.is l)) in
    loaded_loop cs c.args.s.now c.in-Loop.count c.in-Loop.body c.each-in-Loop.result c.in-Loop.is (subst (λ ss. IsLoaded (unloaded cs (code_of ss)) c.each-in-Loop.result) same body)
