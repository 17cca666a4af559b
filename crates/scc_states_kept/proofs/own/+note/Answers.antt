use Rattle.std.proofs.Common.{sym, subst}
use Rattle.std.specs.Prelude.{◌||◌}
use Rattle.scc_core_view.specs.Codes.{code_of}
use Rattle.scc_states_kept.specs.Noted.{Notes, TellsHere, TellsOne, owns_any, owns_one, test_of}
use Rattle.scc_states_kept.proofs.Noting.{notes_code, noted_if, noted_put, one_if, one_put}
use Rattle.scc_states_kept.proofs.Standing.{on_ok}
use Rattle.scc_states_kept.proofs.Walking.{acts_here}
use Rattle.scc_states_kept.proofs.own.+note.Goals as goal

pub note-returns-in-Assign : goal.note-returns-in-Assign
note-returns-in-Assign t c = λ f d k.
    let s = c.args.s.now in
    on_ok c.note_put.result (λ m. noted_put c.args.known c.args.process s c.in-Assign.left c.in-Assign.value c.note_put.new.cells.keys f c.in-Assign.is m)
    (c.note_put.ensures s.place f (one_put c.args.known c.args.process s c.in-Assign.left c.in-Assign.value c.in-Assign.is d) k)

pub note-returns-in_ok-note_all-in-If : goal.note-returns-in_ok-note_all-in-If
note-returns-in_ok-note_all-in-If t c = λ f d k.
    let s = c.args.s.now in
    let known = c.args.known in
    let i = c.args.process in
    let told = one_if known i s c.in-If.test c.in-If.yes c.in-If.no c.in-If.is d in
    let first = c.as_slice.ensures.elements in
    let second = c.as_slice-in-If.ensures.elements in
    let yes = c.in_ok-note_all-in-If.ensures (λ x. f x || owns_one known i (test_of s.place c.in-If.test) x) (subst (λ ss. TellsHere known i (code_of ss)) (sym first) told.1) (c.in_ok-note_test-in-If.ensures s.place f told.0 k) in
    on_ok c.note_all-in-If.result (λ m. noted_if known i s c.in-If.test c.in-If.yes c.in-If.no c.note_all-in-If.new.cells.keys f c.in-If.is
    (subst (λ ss. Notes c.note_all-in-If.new.cells.keys (λ x. ((f x || owns_one known i (test_of s.place c.in-If.test) x) || owns_any known i (code_of c.in-If.yes) x) || owns_any known i (code_of ss) x)) second m))
    (c.note_all-in-If.ensures _ (subst (λ ss. TellsHere known i (code_of ss)) (sym second) told.2)
    (subst (λ ss. Notes c.note_all.new.cells.keys (λ x. (f x || owns_one known i (test_of s.place c.in-If.test) x) || owns_any known i (code_of ss) x)) first yes))

pub note_all-loop-s-preserved : goal.note_all-loop-s-preserved
note_all-loop-s-preserved t c = λ f d k.
    let ss = c.args.body.now in
    notes_code c.args.known c.args.process ss c.loop-s.s-index c.s-item.result c.note.new.cells.keys f c.loop-s-test.true c.s-item.is
    (c.in_ok-note.ensures _ (acts_here (TellsOne c.args.known c.args.process) ss c.loop-s.s-index c.s-item.result c.loop-s-test.true c.s-item.is d) (c.loop-s.invariant f d k))
