use Rattle.std.proofs.Common.{◌≡◌, ◌+◌, ◌<◌, arith, sym, ap, ◌∙◌, drop, length, [], ◌∷◌, Some, None}
use Rattle.std.proofs.lemmas.List.{drop_all}
use Rattle.scc_core_spec.specs.First.{first_of}
use Rattle.scc_core_spec.specs.Rules.{waits}
use Rattle.scc_core_view.specs.Codes.{code_of}
use Rattle.scc_rules_walks.proofs.Steps.{wait_found, wait_next, wait_if}
use Rattle.scc_rules_walks.proofs.waits.+first_wait.Goals as goal

pub first_wait-returns-in-Some : goal.first_wait-returns-in-Some
first_wait-returns-in-Some t c =
    let h : c.loop-s.s-index < length c.args.body.now = omega arith in
    wait_found c.args.body.now c.loop-s.s-index c.s-item.result c.in-Some.place h c.s-item.is (sym c.in-Some.is ∙ c.wait_in.ensures) c.loop-s.invariant

pub first_wait-loop-s-preserved : goal.first_wait-loop-s-preserved
first_wait-loop-s-preserved t c =
    let h : c.loop-s.s-index < length c.args.body.now = omega arith in
    wait_next c.args.body.now c.loop-s.s-index c.s-item.result h c.s-item.is (sym c.in-None.is ∙ c.wait_in.ensures) c.loop-s.invariant

pub first_wait-returns : goal.first_wait-returns
first_wait-returns t c = ap (λ ss. first_of Some (waits (code_of ss))) (sym (drop_all c.loop-s.s-index c.args.body.now (omega arith))) ∙ c.loop-s.invariant

pub wait_in-returns-in-If : goal.wait_in-returns-in-If
wait_in-returns-in-If t c = wait_if c.args.s.now _ c.in-If.yes c.in-If.no _ _ _ _ _ c.in-If.is c.as_slice.ensures.elements c.as_slice-in-If.ensures.elements c.first_wait-a.ensures c.first_wait-b.ensures c.earlier.ensures
