use Rattle.std.proofs.Common.{◌≡◌, ◌+◌, ◌<◌, ◌≤◌, arith, refl, subst, sym, ap, ◌∙◌, drop, length, [], ◌∷◌, ◌++◌, Some, None}
use Rattle.std.proofs.lemmas.List.{drop_all}
use Rattle.scc_core_spec.specs.Flow.{idle, idle_loops}
use Rattle.scc_core_view.specs.Codes.{code_of}
use Rattle.scc_rules_walks.specs.Ways.{AreWithin, within}
use Rattle.scc_rules_walks.proofs.Idle.{along_first, marked_within, pass_within, one_more_within, are_above, start_within}
use Rattle.scc_rules_walks.proofs.Steps.{from_next, from_all, walks_if, walks_block, walks_loop, walks_exit, walks_wait, walks_put, walks_aim}
use Rattle.scc_rules_walks.proofs.ways.+ways.Goals as goal

pub each-loop-s-init : goal.each-loop-s-init
each-loop-s-init t c = λ i a. (along_first (idle (code_of c.args.body.now)) (idle_loops (code_of c.args.body.now)) c.args.here c.args.walk.now.outs.items c.args.walk.now.first, i, a)

pub each-loop-s-preserved : goal.each-loop-s-preserved
each-loop-s-preserved t c = λ i a.
    let inv = c.loop-s.invariant i a in
    let h : c.loop-s.s-index < length c.args.body.now = omega arith in
    let w = c.in_ok-way.ensures inv.1 inv.2 in (
      from_next c.args.body.now c.loop-s.s-index c.s-item.result c.args.here c.loop-s.way c.in_ok-way.way c.args.walk.now.outs.items c.loop-s.walk.outs.items c.one.new.walk.outs.items
          c.args.walk.now.first c.loop-s.walk.first c.one.new.walk.first h c.s-item.is inv.0 w,
      subst (within c.args.depth) (sym w.ends) (pass_within c.args.depth (idle (code_of (c.s-item.result ∷ []))).ends c.loop-s.way inv.1),
      subst (AreWithin c.args.depth) (sym w.marks) (marked_within c.args.depth (idle (code_of (c.s-item.result ∷ []))).leaves c.loop-s.way c.loop-s.walk.outs.items inv.2),
    )

pub each-returns : goal.each-returns
each-returns t c = λ i a.
    from_all c.args.body.now (drop c.loop-s.s-index c.args.body.now) c.args.here c.loop-s.way c.args.walk.now.outs.items c.loop-s.walk.outs.items c.args.walk.now.first c.loop-s.walk.first
    (drop_all c.loop-s.s-index c.args.body.now (omega arith)) (c.loop-s.invariant i a).0

pub one-returns-in-Wait : goal.one-returns-in-Wait
one-returns-in-Wait t c = λ i a. walks_wait c.args.s.now _ c.args.here c.args.walk.now.outs.items c.args.walk.now.first c.in-Wait.is

pub one-returns-in-Assign : goal.one-returns-in-Assign
one-returns-in-Assign t c = λ i a. walks_put c.args.s.now _ _ c.args.here c.args.walk.now.outs.items c.args.walk.now.first c.in-Assign.is

pub one-returns-in-Alias : goal.one-returns-in-Alias
one-returns-in-Alias t c = λ i a. walks_aim c.args.s.now _ _ c.args.here c.args.walk.now.outs.items c.args.walk.now.first c.in-Alias.is

pub one-returns-in_ok-b-in-If : goal.one-returns-in_ok-b-in-If
one-returns-in_ok-b-in-If t c = λ i a.
    let v = c.in_ok-a-in-If.ensures i a in
    let w = c.in_ok-b-in-If.ensures i (subst (AreWithin c.args.depth) (sym v.marks) (marked_within c.args.depth (idle (code_of c.as_slice.result.now)).leaves c.args.here c.args.walk.now.outs.items a)) in
    walks_if c.args.s.now _ c.in-If.yes c.in-If.no _ _ c.args.here _ _ _ c.args.walk.now.outs.items _ _ c.args.walk.now.first _ _ c.in-If.is c.as_slice.ensures.elements c.as_slice-in-If.ensures.elements v w c.least.ensures

pub one-returns-in_ok-out-in-Block : goal.one-returns-in_ok-out-in-Block
one-returns-in_ok-out-in-Block t c = λ i a.
    let w = c.in_ok-end-in-Block.ensures i (subst (AreWithin c.args.depth) (sym c.in_ok-push-in-Block.ensures.ok) (one_more_within c.args.depth None c.args.walk.now.outs.items a)) in
    walks_block c.args.s.now c.in-Block.body _ c.args.depth c.args.here _ _ c.args.walk.now.outs.items _ _ _ _ c.args.walk.now.first _ c.in-Block.is i c.in_ok-push-in-Block.ensures.ok
    c.as_slice-in-Block.ensures.elements w c.in_ok-out-in-Block.ensures c.least-in-Block.ensures

pub one-returns-in_ok-leave-in-Exit : goal.one-returns-in_ok-leave-in-Exit
one-returns-in_ok-leave-in-Exit t c = λ i a. walks_exit c.args.s.now c.in-Exit.n c.args.here c.args.walk.now.outs.items _ c.args.walk.now.first c.in-Exit.is c.in_ok-leave-in-Exit.ensures

pub one-returns-in_ok-end-in-Loop : goal.one-returns-in_ok-end-in-Loop
one-returns-in_ok-end-in-Loop t c = λ i a.
    let at : c.in_ok-inner-in-Loop.inner ≡ c.args.depth + 1 = c.in_ok-inner-in-Loop.ensures in
    let inside = subst (λ x. x ≤ c.in_ok-inner-in-Loop.inner) (sym c.start.ensures) (start_within c.in_ok-inner-in-Loop.inner c.args.here) in
    let w = c.in_ok-end-in-Loop.ensures inside (subst (λ m. AreWithin m c.args.walk.now.outs.items) (sym at) (are_above c.args.depth c.args.walk.now.outs.items a)) in
    walks_loop c.args.s.now _ c.in-Loop.body _ c.args.depth c.in_ok-inner-in-Loop.inner c.start.result c.args.here _ c.args.walk.now.outs.items _ c.args.walk.now.first _ _ c.in-Loop.is at a
    c.as_slice-in-Loop.ensures.elements c.start.ensures w c.first_loop-walk.ensures
