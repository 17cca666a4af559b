use Rattle.std.proofs.Common.{List, map, ap}
use Rattle.std.proofs.lemmas.Result.{IfOk-weaker}
use Rattle.scc_core_view.specs.Terms as core
use Rattle.scc_svtree.specs.declared.stmt.SvStmt.{SvStmt}
use Rattle.scc_svtree.specs.Code.{code_of}
use Rattle.scc_svtree.specs.Term.{term_of}
use Rattle.scc_lower_tree_laws.specs.Assigning.{Assigning, Part, PutsElement}
use Rattle.scc_lower_expressions.specs.Becoming.{chosen_of, found_of, given_of, opened_of, state_of}
use Rattle.scc_lower.proofs.Found.{part-done}
use Rattle.scc_lower.proofs.assign.part_assigned.Goals as goal

pub returns : goal.returns
returns c = λ l found takes.
    let g = given_of c.args.cells in
    let e = c.args.value.now in
    let a = state_of c.args.cx.now in
    let b = state_of c.opened.new.cx in
    let d = state_of c.lowered.new.cx in
    let f = found_of c.args.found.now in
    let pick = (core.taken_of l).pick in
    let P : List SvStmt → Type 0 = λ ss. PutsElement g d.views (map opened_of c.as_slice-2.result.now) f.first (Part c.args.bits.h c.args.bits.l pick (core.term_of e) (term_of c.in_ok-value.value)) (code_of ss) in
    let Q : List SvStmt → Type 0 = λ ss. Assigning g l e a (code_of ss) d in
    IfOk-weaker c.all_written.result P Q
    (λ ss put. part-done g l e f (map chosen_of c.as_slice.result.now) c.as_slice-2.result.now c.in_ok-opens.opens.items a b d c.args.bits.h c.args.bits.l c.in_ok-of.of c.in_ok-value.value (code_of ss) found takes (ap (map chosen_of) c.as_slice.ensures.value)
    c.in_ok-opens.ensures c.in_ok-of.ensures c.in_ok-value.ensures c.as_slice-2.ensures.value put)
    (c.all_written.ensures pick (core.term_of e))
