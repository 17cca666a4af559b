use Rattle.std.proofs.Common.{◌≡◌, sym, ap, subst, ◌∙◌, List, [], Some, None, map}
use Rattle.std.proofs.lemmas.Result.{IfOk-weaker}
use Rattle.scc_base.specs.declared.path.PathPart.{PathPart}
use Rattle.scc_core.specs.declared.stmt.CoreStmt.{CoreStmt}
use Rattle.scc_core_spec.specs.Code.{Code}
use Rattle.scc_core_spec.specs.Counted.{Elsewhere, uses}
use Rattle.scc_core_spec.specs.Unrolled.{unrolled}
use Rattle.scc_core_view.specs.Codes.{code_of}
use Rattle.scc_core_view.specs.Programs.{cell_of, path_of}
use Rattle.scc_unroll_asked.specs.Asked.{AreTaken, asked}
use Rattle.scc_unroll.specs.Unrolled.{refusal_in}
use Rattle.scc_unroll_asked.specs.Copied.{AreCopies}
use Rattle.scc_unroll_asked.specs.Items.{asked as items}
use Rattle.scc_unroll.proofs.pass.new_body.Goals as goal

pub returns-clause-refused : goal.returns-clause-refused
returns-clause-refused c = λ r taken is.
    let k = c.args.known in
    let p = c.args.p.now in
    let b = code_of p.body in
    let cs = map cell_of k.cells.now in
    let one = c.as_slice-3.ensures.elements in
    let here = c.body_at.ensures.refused b r (record { knows = λ o. c.in_ok-uses.ensures o ∙ ap (λ x. uses cs o (code_of x)) c.as_slice.ensures.elements; counters = tt }) (subst (λ x. AreTaken k (asked x)) (sym one) taken) is in
    subst (λ x. refusal_in (record { cells = cs; path = path_of x; body = b }) p.place b ≡ Some r) c.as_slice-2.ensures.parts
    (subst (λ y. refusal_in (record { cells = cs; path = path_of c.as_slice-2.result.now; body = b }) p.place (code_of y) ≡ Some r) one here)

pub returns-clause-passed : goal.returns-clause-passed
returns-clause-passed c = λ taken.
    let k = c.args.known in
    let p = c.args.p.now in
    let b = code_of p.body in
    let cs = map cell_of k.cells.now in
    let one = c.as_slice-3.ensures.elements in
    let here = c.body_at.ensures.passed b (record { knows = λ o. c.in_ok-uses.ensures o ∙ ap (λ x. uses cs o (code_of x)) c.as_slice.ensures.elements; counters = tt }) (subst (λ x. AreTaken k (asked x)) (sym one) taken) in
    IfOk-weaker c.body_at.result _ _
    (λ l h. subst (λ x. refusal_in (record { cells = cs; path = path_of x; body = b }) p.place b ≡ None) c.as_slice-2.ensures.parts
    (subst (λ y. refusal_in (record { cells = cs; path = path_of c.as_slice-2.result.now; body = b }) p.place (code_of y) ≡ None) one h)) here

pub returns-clause-given : goal.returns-clause-given
returns-clause-given c = λ taken.
    let k = c.args.known in
    let p = c.args.p.now in
    let b = code_of p.body in
    let cs = map cell_of k.cells.now in
    let one = c.as_slice-3.ensures.elements in
    let here = c.body_at.ensures.given b (record { knows = λ o. c.in_ok-uses.ensures o ∙ ap (λ x. uses cs o (code_of x)) c.as_slice.ensures.elements; counters = tt }) (subst (λ x. AreTaken k (asked x)) (sym one) taken) in
    let Body : List PathPart → List CoreStmt → Code = λ x y. unrolled (record { cells = cs; path = path_of x; body = b }) [] Elsewhere (code_of y) in
    IfOk-weaker c.body_at.result (λ l. code_of l ≡ Body c.as_slice-2.result.now c.as_slice-3.result.now) (λ l. code_of l ≡ Body p.name.path p.body)
    (λ l h. subst (λ x. code_of l ≡ Body x p.body) c.as_slice-2.ensures.parts (subst (λ y. code_of l ≡ Body c.as_slice-2.result.now y) one h)) here

pub returns-clause-copies : goal.returns-clause-copies
returns-clause-copies c =
    IfOk-weaker c.body_at.result _ _ (λ l h. subst (λ x. AreCopies c.args.known.cells.now (items x) l) c.as_slice-3.ensures.elements h) c.body_at.ensures.copies
