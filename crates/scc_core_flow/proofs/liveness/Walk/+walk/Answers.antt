use Rattle.std.proofs.Common.{◌≡◌, ◌<◌, arith, refl, subst, sym, ap, ◌∙◌, drop, length, [], ◌∷◌, true, false, Some, None}
use Rattle.std.proofs.lemmas.List.{drop_all}
use Rattle.scc_core_spec.specs.Live.{alive}
use Rattle.scc_core_spec.specs.Static.{goes}
use Rattle.scc_core_view.specs.Codes.{code_of}
use Rattle.scc_core_view.specs.Terms.{term_of}
use Rattle.scc_core_flow.specs.Live.{Decides, DecidesAll, Walked}
use Rattle.scc_core_flow.proofs.Alive.{along_next, along_stops, along_ends}
use Rattle.scc_core_flow.proofs.Tests.{tests_here, each_if, each_block, each_loop}
use Rattle.scc_core_flow.proofs.Nodes.{each_ok, both_ok, walks_yes, walks_no, walks_both, walks_block, walks_loop, walks_exit, walks_put, walks_wait, walks_aim, puts_copy}
use Rattle.scc_core_flow.proofs.liveness.Walk.+walk.Goals as goal

pub list-returns-then-not-branch : goal.list-returns-then-not-branch
list-returns-then-not-branch t c = λ cs d.
    let i : c.loop-s.s-index < length c.args.list.now = omega arith in
    let w = c.in_ok-stmt.ensures cs (tests_here (Decides c.args.self.now.known.now cs) c.args.list.now c.loop-s.s-index c.s-item.result i c.s-item.is d) in
    along_stops cs c.args.list.now c.loop-s.s-index c.s-item.result c.args.out.now c.loop-s.out c.stmt.new.out c.args.left.now.items c.loop-s.left.items c.stmt.new.left.items i c.s-item.is (c.loop-s.invariant cs d)
    (subst (λ b. Walked (alive cs (code_of (c.s-item.result ∷ []))) b c.loop-s.out c.stmt.new.out c.loop-s.left.items c.stmt.new.left.items) c.if-not-branch.true w)

pub list-loop-s-preserved : goal.list-loop-s-preserved
list-loop-s-preserved t c = λ cs d.
    let i : c.loop-s.s-index < length c.args.list.now = omega arith in
    let w = c.in_ok-stmt.ensures cs (tests_here (Decides c.args.self.now.known.now cs) c.args.list.now c.loop-s.s-index c.s-item.result i c.s-item.is d) in
    along_next cs c.args.list.now c.loop-s.s-index c.s-item.result c.args.out.now c.loop-s.out c.stmt.new.out c.args.left.now.items c.loop-s.left.items c.stmt.new.left.items i c.s-item.is (c.loop-s.invariant cs d)
    (subst (λ b. Walked (alive cs (code_of (c.s-item.result ∷ []))) b c.loop-s.out c.stmt.new.out c.loop-s.left.items c.stmt.new.left.items) c.if-not-branch.false w)

pub list-returns : goal.list-returns
list-returns t c = λ cs d.
    along_ends cs (alive cs (code_of c.args.list.now)) (drop c.loop-s.s-index c.args.list.now) c.args.out.now c.loop-s.out c.args.left.now.items c.loop-s.left.items
    (drop_all c.loop-s.s-index c.args.list.now (omega arith)) (c.loop-s.invariant cs d)

pub stmt-returns-in-Some-true : goal.stmt-returns-in-Some-true
stmt-returns-in-Some-true t c = λ cs d.
    let k = c.args.self.now.known.now in
    let e = each_if (Decides k cs) c.args.s.now c.in-If.test c.in-If.yes c.in-If.no c.in-If.is d in
    let g : Some true ≡ goes cs (term_of c.in-If.test) = ap Some (sym c.in-Some-true.field-0-test) ∙ sym c.in-Some-true.is ∙ c.goes.ensures.known ∙ e.0 in
    each_ok _ _ c.list.result (c.list.ensures cs (subst (DecidesAll k cs) (sym c.as_slice.ensures.elements) e.1))
    (λ r w. walks_yes cs c.args.s.now c.in-If.test c.in-If.yes c.in-If.no _ r c.args.out.now c.list.new.out c.args.left.now.items c.list.new.left.items c.in-If.is g c.as_slice.ensures.elements w)

pub stmt-returns-in-Some-false : goal.stmt-returns-in-Some-false
stmt-returns-in-Some-false t c = λ cs d.
    let k = c.args.self.now.known.now in
    let e = each_if (Decides k cs) c.args.s.now c.in-If.test c.in-If.yes c.in-If.no c.in-If.is d in
    let g : Some false ≡ goes cs (term_of c.in-If.test) = ap Some (sym c.in-Some-false.field-0-test) ∙ sym c.in-Some-false.is ∙ c.goes.ensures.known ∙ e.0 in
    each_ok _ _ c.list-in-Some-false.result (c.list-in-Some-false.ensures cs (subst (DecidesAll k cs) (sym c.as_slice-in-Some-false.ensures.elements) e.2))
    (λ r w. walks_no cs c.args.s.now c.in-If.test c.in-If.yes c.in-If.no _ r c.args.out.now c.list-in-Some-false.new.out c.args.left.now.items c.list-in-Some-false.new.left.items c.in-If.is g c.as_slice-in-Some-false.ensures.elements w)

pub stmt-returns-in_ok-no-in-None : goal.stmt-returns-in_ok-no-in-None
stmt-returns-in_ok-no-in-None t c = λ cs d.
    let k = c.args.self.now.known.now in
    let e = each_if (Decides k cs) c.args.s.now c.in-If.test c.in-If.yes c.in-If.no c.in-If.is d in
    let g : None ≡ goes cs (term_of c.in-If.test) = sym c.in-None.is ∙ c.goes.ensures.known ∙ e.0 in
    let v = c.in_ok-yes-in-None.ensures cs (subst (DecidesAll k cs) (sym c.as_slice-in-None.ensures.elements) e.1) in
    let w = c.in_ok-no-in-None.ensures cs (subst (DecidesAll k cs) (sym c.as_slice-in-None-2.ensures.elements) e.2) in
    both_ok _ _ _ c.tested.result c.tested.ensures.code c.tested.ensures.ends
    (λ r code told. walks_both cs c.args.s.now c.in-If.test c.in_ok-test-in-None.test c.in-If.yes c.in-If.no _ _ _ _ r _ _ c.args.out.now c.tested.new.out c.args.left.now.items _ _ c.in-If.is g
    (c.in_ok-test-in-None.ensures.plain c.plain-copies.ensures.plain) c.as_slice-in-None.ensures.elements c.as_slice-in-None-2.ensures.elements v w code told)

pub stmt-returns-in_ok-is_left-in-Block : goal.stmt-returns-in_ok-is_left-in-Block
stmt-returns-in_ok-is_left-in-Block t c = λ cs d.
    let k = c.args.self.now.known.now in
    let e = each_block (Decides k cs) c.args.s.now c.in-Block.body c.in-Block.is d in
    let w = c.in_ok-body-in-Block.ensures cs (subst (DecidesAll k cs) (sym c.as_slice-in-Block.ensures.elements) e) in
    both_ok _ _ _ c.shut.result c.shut.ensures.code c.shut.ensures.ends
    (λ r code told. walks_block cs c.args.s.now c.in-Block.body _ _ _ r _ c.args.out.now c.shut.new.out c.args.left.now.items _ _ _ c.in-Block.is
    c.as_slice-in-Block.ensures.elements c.in_ok-push-in-Block.ensures.ok w c.in_ok-is_left-in-Block.ensures code told)

pub stmt-returns-in_ok-body-in-Loop : goal.stmt-returns-in_ok-body-in-Loop
stmt-returns-in_ok-body-in-Loop t c = λ cs d.
    let k = c.args.self.now.known.now in
    let e = each_loop (Decides k cs) c.args.s.now c.in-Loop.count c.in-Loop.body c.in-Loop.is d in
    let w = c.in_ok-body-in-Loop.ensures cs (subst (DecidesAll k cs) (sym c.as_slice-in-Loop.ensures.elements) e) in
    both_ok _ _ _ c.looped.result c.looped.ensures.code c.looped.ensures.ends
    (λ r code told. walks_loop cs c.args.s.now c.in-Loop.count c.in-Loop.body _ _ r _ c.args.out.now c.looped.new.out c.args.left.now.items _ c.in-Loop.is
    c.as_slice-in-Loop.ensures.elements w code told)

pub stmt-returns-in_ok-push-in-Exit : goal.stmt-returns-in_ok-push-in-Exit
stmt-returns-in_ok-push-in-Exit t c = λ cs d.
    walks_exit cs c.args.s.now c.in-Exit.n c.args.out.now c.push-in-Exit.new.self c.args.left.now.items c.leave.new.left.items c.in-Exit.is
    (puts_copy c.args.s.now c.in_ok-stmt-in-Exit.field-0 c.args.out.now c.push-in-Exit.new.self c.in_ok-push-in-Exit.ensures.ok (c.in_ok-stmt-in-Exit.ensures c.plain-copies.ensures.plain)) c.in_ok-leave-in-Exit.ensures

pub stmt-returns-in-Assign : goal.stmt-returns-in-Assign
stmt-returns-in-Assign t c = λ cs d.
    both_ok _ _ _ c.kept.result c.kept.ensures.more c.kept.ensures.ends
    (λ r more told. subst (λ b. Walked (alive cs (code_of (c.args.s.now ∷ []))) b c.args.out.now c.kept.new.out c.args.left.now.items c.args.left.now.items) (sym told)
    (walks_put cs c.args.s.now c.in-Assign.left c.in-Assign.value c.args.out.now c.kept.new.out c.args.left.now.items c.args.left.now.items c.in-Assign.is more refl))

pub stmt-returns-in-Wait : goal.stmt-returns-in-Wait
stmt-returns-in-Wait t c = λ cs d.
    both_ok _ _ _ c.kept-in-Wait.result c.kept-in-Wait.ensures.more c.kept-in-Wait.ensures.ends
    (λ r more told. subst (λ b. Walked (alive cs (code_of (c.args.s.now ∷ []))) b c.args.out.now c.kept-in-Wait.new.out c.args.left.now.items c.args.left.now.items) (sym told)
    (walks_wait cs c.args.s.now c.in-Wait.n c.args.out.now c.kept-in-Wait.new.out c.args.left.now.items c.args.left.now.items c.in-Wait.is more refl))

pub stmt-returns-in-Alias : goal.stmt-returns-in-Alias
stmt-returns-in-Alias t c = λ cs d.
    both_ok _ _ _ c.kept-in-Alias.result c.kept-in-Alias.ensures.more c.kept-in-Alias.ensures.ends
    (λ r more told. subst (λ b. Walked (alive cs (code_of (c.args.s.now ∷ []))) b c.args.out.now c.kept-in-Alias.new.out c.args.left.now.items c.args.left.now.items) (sym told)
    (walks_aim cs c.args.s.now c.in-Alias.to c.in-Alias.target c.args.out.now c.kept-in-Alias.new.out c.args.left.now.items c.args.left.now.items c.in-Alias.is more refl))
