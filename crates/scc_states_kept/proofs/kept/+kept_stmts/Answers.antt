use Rattle.std.proofs.Common.{◌≡◌, ◌<◌, ◌+◌, ◌-◌, arith, ◌∙◌, sym, subst, drop, length, [], ◌∷◌}
use Rattle.scc_core_view.specs.Codes.{code_of}
use Rattle.scc_states_kept.specs.Slots.{Keeps}
use Rattle.scc_states_kept.specs.Walks.{Around, TellsAct, TellsCode, needs}
use Rattle.scc_states_kept.proofs.Standing.{on_ok}
use Rattle.scc_states_kept.proofs.Walking.{acts_here, around_more, code_here, keeps_alike, keeps_both, keeps_put, keeps_if, keeps_block, told_put, told_if, told_block}
use Rattle.scc_states_kept.proofs.kept.+kept_stmts.Goals as goal

pub before-returns-in-Assign-clause-live : goal.before-returns-in-Assign-clause-live
before-returns-in-Assign-clause-live t c = λ cs only f outs d k a.
    let own = c.args.own.now in
    let l = c.in-Assign.left in
    let e = c.in-Assign.value in
    on_ok c.before_put.result (λ m. keeps_put only own cs c.before_put.new.live c.args.s.now l e f outs c.in-Assign.is m)
    (c.before_put.ensures cs only f (told_put own.known cs only c.args.s.now l e c.in-Assign.is d) k)

pub before-returns-in_ok-each-in-If-2-clause-live : goal.before-returns-in_ok-each-in-If-2-clause-live
before-returns-in_ok-each-in-If-2-clause-live t c = λ cs only f outs d k a.
    let own = c.args.own.now in
    let told = told_if own.known cs only c.args.s.now c.in-If.test c.in-If.yes c.in-If.no c.in-If.is d in
    let first = c.as_slice.ensures.elements in
    let second = c.as_slice-in-If.ensures.elements in
    let other = keeps_alike only own c.args.live.now c.in_ok-other-in-If.other f c.in_ok-other-in-If.ensures k in
    let yes = c.in_ok-each-in-If.ensures.live cs only f outs (subst (λ ss. TellsCode own.known cs only (code_of ss)) (sym first) told.1) k a in
    let here = subst (λ xs. Around only own xs outs) (sym c.in_ok-each-in-If.ensures.same) a in
    let no = c.in_ok-each-in-If-2.ensures.live cs only f outs (subst (λ ss. TellsCode own.known cs only (code_of ss)) (sym second) told.2) other here in
    on_ok c.before_branches.result (λ m. keeps_if only own cs c.before_branches.new.live c.args.s.now c.in-If.test c.in-If.yes c.in-If.no f outs c.in-If.is m)
    (c.before_branches.ensures cs only (needs cs (code_of c.in-If.yes) f outs) (needs cs (code_of c.in-If.no) f outs) told.0
    (subst (λ ss. Keeps only own c.each.new.live (needs cs (code_of ss) f outs)) first yes)
    (subst (λ ss. Keeps only own c.each-in-If.new.live (needs cs (code_of ss) f outs)) second no))

pub before-returns-in_ok-_set-in-Block-clause-live : goal.before-returns-in_ok-_set-in-Block-clause-live
before-returns-in_ok-_set-in-Block-clause-live t c = λ cs only f outs d k a.
    let own = c.args.own.now in
    let same = c.as_slice-in-Block.ensures.elements in
    let told = told_block own.known cs only c.args.s.now c.in-Block.body c.in-Block.is d in
    let set = c.in_ok-copied-in-Block.field-0 in
    let more = around_more only own c.args.behind.now.items set f outs (keeps_alike only own c.args.live.now set f c.in_ok-copied-in-Block.ensures k) a in
    let body = c.in_ok-each-in-Block.ensures.live cs only f (λ x. f x ∷ outs x) (subst (λ ss. TellsCode own.known cs only (code_of ss)) (sym same) told) k
    (subst (λ xs. Around only own xs (λ x. f x ∷ outs x)) (sym c.in_ok-push-in-Block.ensures.ok) more) in
    keeps_block only own cs c.each-in-Block.new.live c.args.s.now c.in-Block.body f outs c.in-Block.is
    (subst (λ ss. Keeps only own c.each-in-Block.new.live (needs cs (code_of ss) f (λ x. f x ∷ outs x))) same body)

pub each-loop-left-preserved : goal.each-loop-left-preserved
each-loop-left-preserved t c =
    let ss = c.args.body.now in
    let i = c.loop-left.left - 1 in
    let s = c.index-body-left.result in
    let own = c.args.own.now in
    let within = c.loop-left.invariant.0 in
    let some = c.loop-left-test.true in
    let below : c.loop-left.left - 1 < length c.args.body.now = omega (arith, within, some) in
    let one : c.loop-left.left - 1 + 1 ≡ c.loop-left.left = omega (arith, some) in (
      omega (arith, within),
      c.in_ok-before.ensures.same ∙ c.loop-left.invariant.1,
      λ cs only f outs d k a.
          let behind = code_of (drop c.loop-left.left ss) in
          let m = c.in_ok-before.ensures.live cs only (needs cs behind f outs) outs (acts_here (TellsAct own.known cs only) ss i s below c.index-body-left.is d) (c.loop-left.invariant.2 cs only f outs d k a)
          (subst (λ xs. Around only own xs outs) (sym c.loop-left.invariant.1) a) in
          keeps_both only own cs c.before-in-loop-left.new.live (code_of (s ∷ [])) (code_of (drop (i + 1) ss)) (code_of (drop i ss)) f outs (code_here ss i s below c.index-body-left.is)
          (subst (λ n. Keeps only own c.before-in-loop-left.new.live (needs cs (code_of (s ∷ [])) (needs cs (code_of (drop n ss)) f outs) outs)) (sym one) m),
    )

pub each-returns-clause-live : goal.each-returns-clause-live
each-returns-clause-live t c = λ cs only f outs d k a.
    let none = c.loop-left-test.false in
    let zero : c.loop-left.left ≡ 0 = omega (arith, none) in
    subst (λ n. Keeps only c.args.own.now c.loop-left.live (needs cs (code_of (drop n c.args.body.now)) f outs)) zero (c.loop-left.invariant.2 cs only f outs d k a)
