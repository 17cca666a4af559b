use Rattle.std.proofs.Common.{◌≡◌, sym, ap, subst, ◌∙◌}
use Rattle.std.proofs.lemmas.Result.{err_from_is_err_and}
use Rattle.scc_core_flow.specs.Live.{DecidesAll}
use Rattle.scc_core_spec.specs.Kept.{kept}
use Rattle.scc_core_spec.specs.Live.{live}
use Rattle.scc_core_spec.specs.Split.{reset_value}
use Rattle.scc_core_view.specs.Codes.{code_of}
use Rattle.scc_core_view.specs.Programs.{cells_of, is_thread, process_of, program_of}
use Rattle.scc_states_cut.specs.Limits.{IsCutOf, Stops}
use Rattle.scc_states.specs.Resets.{LoadsAll}
use Rattle.scc_states.proofs.Splitting.{cells_same, cut_code, cut_so, cut_stops, reset_stops, some_same, told_live}
use Rattle.scc_states.proofs.thread.cut_thread.Goals as goal

pub returns-in_err-cut-clause-stop : goal.returns-in_err-cut-clause-stop
returns-in_err-cut-clause-stop c =
    let p = err_from_is_err_and c.from_residual-in_err-cut.result c.from_residual-in_err-cut.ensures.1 in
    rw (p.1, p.2) (cut_code (code_of c.as_slice-2.result.now) c.in_err-cut.field-0.0 c.in_err-cut.ensures)

pub returns-in_err-cut-clause-split : goal.returns-in_err-cut-clause-split
returns-in_err-cut-clause-split c = λ q t.
    let k = c.args.known in
    let cs = cells_of c.args.c.now in
    let there = some_same c.in-Some.thread.now q (c.in-Some.ensures.element ∙ t.stands) in
    let body : c.as_slice.result.now ≡ q.body = c.as_slice.ensures.elements ∙ ap (λ x. x.body) there in
    let is_live : code_of c.as_slice-2.result.now ≡ live cs (code_of q.body) =
    ap code_of c.as_slice-2.ensures.elements ∙ c.in_ok-body.ensures.live cs (subst (DecidesAll k cs) (sym body) t.tests) ∙ ap (λ ss. live cs (code_of ss)) body in
    let p = err_from_is_err_and c.from_residual-in_err-cut.result c.from_residual-in_err-cut.ensures.1 in
    rw (p.1, p.2) (cut_stops (program_of c.args.c.now) (process_of q) (code_of c.as_slice-2.result.now) (ap is_thread t.is_thread) is_live c.in_err-cut.field-0.0 c.in_err-cut.ensures)

pub returns-in_err-reset_checked-clause-split : goal.returns-in_err-reset_checked-clause-split
returns-in_err-reset_checked-clause-split c = λ q t.
    let k = c.args.known in
    let cs = cells_of c.args.c.now in
    let there = some_same c.in-Some.thread.now q (c.in-Some.ensures.element ∙ t.stands) in
    let body : c.as_slice.result.now ≡ q.body = c.as_slice.ensures.elements ∙ ap (λ x. x.body) there in
    let is_live : code_of c.as_slice-2.result.now ≡ live cs (code_of q.body) =
    ap code_of c.as_slice-2.ensures.elements ∙ c.in_ok-body.ensures.live cs (subst (DecidesAll k cs) (sym body) t.tests) ∙ ap (λ ss. live cs (code_of ss)) body in
    let e = c.in_err-reset_checked.field-0.0 in
    let stop = c.in_err-reset_checked.ensures.first cs (subst (λ x. DecidesAll k cs x.body) (sym there) t.tests) (subst (λ x. LoadsAll k cs x.body) (sym there) t.loads) in
    let p = err_from_is_err_and c.from_residual-in_err-reset_checked.result c.from_residual-in_err-reset_checked.ensures.1 in
    rw (p.1, p.2) (reset_stops (program_of c.args.c.now) (process_of q) (code_of c.as_slice-2.result.now) (ap is_thread t.is_thread) is_live c.in_ok-cut.cut e c.in_ok-cut.ensures
    (subst (λ x. Stops (reset_value cs (process_of x)) e) there stop))

pub returns-clause-kept : goal.returns-clause-kept
returns-clause-kept c = λ q t n.
    let k = c.args.known in
    let cs = cells_of c.args.c.now in
    let there = some_same c.in-Some.thread.now q (c.in-Some.ensures.element ∙ t.stands) in
    let body : c.as_slice.result.now ≡ q.body = c.as_slice.ensures.elements ∙ ap (λ x. x.body) there in
    let is_live : code_of c.as_slice-2.result.now ≡ live cs (code_of q.body) =
    ap code_of c.as_slice-2.ensures.elements ∙ c.in_ok-body.ensures.live cs (subst (DecidesAll k cs) (sym body) t.tests) ∙ ap (λ ss. live cs (code_of ss)) body in
    let again = c.as_slice-3.ensures.elements ∙ sym c.as_slice-2.ensures.elements in
    let alive = ap code_of again ∙ is_live in
    let cut = c.in_ok-cut.cut in
    ap (λ s. s.kept) c.with_kept.ensures
    ∙ c.in_ok-kept.ensures (process_of q) cut.waits
    (cut_so k c.args.c.now q c.as_slice-3.result.now cut n.cells alive (subst (λ ss. IsCutOf (code_of ss) cut) (sym again) c.in_ok-cut.ensures))
    (told_live k c.args.c.now c.args.process q c.as_slice-3.result.now alive n)
    ∙ ap (λ xs. kept xs c.args.process (process_of q)) (cells_same k c.args.c.now n.cells)
