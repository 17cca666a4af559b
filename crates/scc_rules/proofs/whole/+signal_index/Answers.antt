use Rattle.std.proofs.Common.{◌≡◌, ◌+◌, ◌<◌, ◌++◌, refl, arith, sym, ap, ◌∙◌, subst, drop, length, [], ◌∷◌, Some, None}
use Rattle.std.proofs.lemmas.List.{drop_all}
use Rattle.scc_core_spec.specs.First.{first_of, or_else}
use Rattle.scc_core_spec.specs.Uses.{loads}
use Rattle.scc_core_view.specs.Terms.{term_of}
use Rattle.scc_rules.specs.Chosen.{AreLocated, chosen_place, uses_in}
use Rattle.scc_rules_walks.specs.Loads.{put_uses, uses_of}
use Rattle.scc_rules.proofs.Firsts.{each_ok}
use Rattle.scc_rules.proofs.Choosing.{assign_uses, block_uses, choice_found, choice_if, choice_next, exit_uses, located_back, located_front, located_here, loop_uses, test_uses, uses_told, wait_uses}
use Rattle.scc_rules.proofs.whole.+signal_index.Goals as goal

pub first_chosen_signal-returns-in-Some : goal.first_chosen_signal-returns-in-Some
first_chosen_signal-returns-in-Some t c = λ cs a.
    let h : c.loop-s.s-index < length c.args.body.now = omega arith in
    choice_found cs c.args.body.now c.loop-s.s-index c.s-item.result c.in-Some.place h c.s-item.is
    (sym c.in-Some.is ∙ c.in_ok-place.ensures cs (located_here c.args.f.now cs c.args.body.now c.loop-s.s-index c.s-item.result h c.s-item.is a)) (c.loop-s.invariant cs a)

pub first_chosen_signal-loop-s-preserved : goal.first_chosen_signal-loop-s-preserved
first_chosen_signal-loop-s-preserved t c = λ cs a.
    let h : c.loop-s.s-index < length c.args.body.now = omega arith in
    choice_next cs c.args.body.now c.loop-s.s-index c.s-item.result h c.s-item.is
    (sym c.in-None.is ∙ c.in_ok-place.ensures cs (located_here c.args.f.now cs c.args.body.now c.loop-s.s-index c.s-item.result h c.s-item.is a)) (c.loop-s.invariant cs a)

pub first_chosen_signal-returns : goal.first_chosen_signal-returns
first_chosen_signal-returns t c = λ cs a. ap (λ ss. first_of (chosen_place cs) (uses_in ss)) (sym (drop_all c.loop-s.s-index c.args.body.now (omega arith))) ∙ c.loop-s.invariant cs a

pub chosen_in-returns-in_ok-uses-in-Assign : goal.chosen_in-returns-in_ok-uses-in-Assign
chosen_in-returns-in_ok-uses-in-Assign t c = λ cs a.
    let same : uses_of c.as_slice.result.now ≡ uses_in (c.args.s.now ∷ []) = ap uses_of c.as_slice.ensures.value ∙ c.in_ok-uses-in-Assign.ensures ∙ sym (assign_uses c.args.s.now c.in-Assign.left c.in-Assign.value c.in-Assign.is) in
    each_ok _ _ c.first_chosen.result c.first_chosen.ensures (λ o h. uses_told c.args.f.now cs c.as_slice.result.now _ o same a h)

pub chosen_in-returns-in_ok-b-in-If : goal.chosen_in-returns-in_ok-b-in-If
chosen_in-returns-in_ok-b-in-If t c = λ cs a.
    let f = c.args.f.now in
    let xs = loads (term_of c.in-If.test) in
    let ys = uses_in c.in-If.yes in
    let zs = uses_in c.in-If.no in
    let is = test_uses c.args.s.now c.in-If.test c.in-If.yes c.in-If.no c.in-If.is in
    let back = located_back f cs xs (ys ++ zs) _ is a in
    let own = uses_told f cs c.as_slice-in-If.result.now xs c.in_ok-own-in-If.own (ap uses_of c.as_slice-in-If.ensures.value ∙ c.in_ok-uses-in-If.ensures) (located_front f cs xs (ys ++ zs) _ is a) c.in_ok-own-in-If.ensures in
    let first = c.in_ok-a-in-If.ensures cs (subst (λ ss. AreLocated f cs (uses_in ss)) (sym c.as_slice-in-If-2.ensures.elements) (located_front f cs ys zs (ys ++ zs) refl back)) ∙ ap (λ ss. first_of (chosen_place cs) (uses_in ss)) c.as_slice-in-If-2.ensures.elements in
    let second = c.in_ok-b-in-If.ensures cs (subst (λ ss. AreLocated f cs (uses_in ss)) (sym c.as_slice-in-If-3.ensures.elements) (located_back f cs ys zs (ys ++ zs) refl back)) ∙ ap (λ ss. first_of (chosen_place cs) (uses_in ss)) c.as_slice-in-If-3.ensures.elements in
    choice_if cs xs ys zs _ c.in_ok-own-in-If.own c.in_ok-a-in-If.a c.in_ok-b-in-If.b _ is own first second (c.earlier-in-If.ensures ∙ ap (or_else c.in_ok-own-in-If.own) c.earlier.ensures)

pub chosen_in-returns-in-Block : goal.chosen_in-returns-in-Block
chosen_in-returns-in-Block t c = λ cs a.
    let is = block_uses c.args.s.now c.in-Block.body c.in-Block.is in
    let same = ap uses_in c.as_slice-in-Block.ensures.elements ∙ sym is in
    each_ok _ _ c.first_chosen_signal-in-Block.result (c.first_chosen_signal-in-Block.ensures cs (subst (AreLocated c.args.f.now cs) (sym same) a)) (λ o h. h ∙ ap (first_of (chosen_place cs)) same)

pub chosen_in-returns-in-Loop : goal.chosen_in-returns-in-Loop
chosen_in-returns-in-Loop t c = λ cs a.
    let is = loop_uses c.args.s.now c.in-Loop.count c.in-Loop.body c.in-Loop.is in
    let same = ap uses_in c.as_slice-in-Loop.ensures.elements ∙ sym is in
    each_ok _ _ c.first_chosen_signal-in-Loop.result (c.first_chosen_signal-in-Loop.ensures cs (subst (AreLocated c.args.f.now cs) (sym same) a)) (λ o h. h ∙ ap (first_of (chosen_place cs)) same)

pub chosen_in-returns-in-Exit : goal.chosen_in-returns-in-Exit
chosen_in-returns-in-Exit t c = λ cs a. sym (ap (first_of (chosen_place cs)) (exit_uses c.args.s.now c.in-Exit.field-0 c.in-Exit.is))

pub chosen_in-returns-in-Wait : goal.chosen_in-returns-in-Wait
chosen_in-returns-in-Wait t c = λ cs a. sym (ap (first_of (chosen_place cs)) (wait_uses c.args.s.now c.in-Wait.n c.in-Wait.is))
