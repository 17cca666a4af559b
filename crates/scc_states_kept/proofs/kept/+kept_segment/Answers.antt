use Rattle.std.proofs.Common.{◌≡◌, ◌<◌, ◌+◌, ◌-◌, arith, ◌∙◌, sym, subst, drop, length}
use Rattle.scc_core_spec.specs.Segments.{segment_code}
use Rattle.scc_states_cut.specs.Cut.{stmt_segment}
use Rattle.scc_states_kept.specs.Walks.{Meets, before_rest, needs, nothing, nowhere}
use Rattle.scc_states_kept.proofs.Standing.{on_ok}
use Rattle.scc_states_kept.proofs.Stretches.{keeps_test, meets_alike, meets_as, meets_wait, meets_whole, on_ok_under, rest_here, told_test}
use Rattle.scc_states_kept.proofs.kept.+kept_segment.Goals as goal

pub segment-loop-left-preserved : goal.segment-loop-left-preserved
segment-loop-left-preserved t c =
    let ss = c.args.list.now in
    let s = c.index-list-left.result in
    let within = c.loop-left.invariant.0 in
    let some = c.loop-left-test.true in
    let below : c.loop-left.left - 1 < length c.args.list.now = omega (arith, within, some) in
    let one : c.loop-left.left - 1 + 1 ≡ c.loop-left.left = omega (arith, some) in (
      omega (arith, within),
      λ cs only waits rest m.
          meets_as only c.args.own.now cs c.segment_stmt.new.live _ _ (rest_here waits ss (c.loop-left.left - 1) c.loop-left.left s rest below c.index-list-left.is one)
          (c.in_ok-segment_stmt.ensures cs only waits (before_rest waits (drop c.loop-left.left ss) rest) (c.loop-left.invariant.1 cs only waits rest m)),
    )

pub segment-returns : goal.segment-returns
segment-returns t c = λ cs only waits rest m.
    let none = c.loop-left-test.false in
    let zero : c.loop-left.left ≡ 0 = omega (arith, none) in
    subst (λ n. Meets only c.args.own.now cs c.loop-left.live (before_rest waits (drop n c.args.list.now) rest)) zero (c.loop-left.invariant.1 cs only waits rest m)

pub segment_stmt-returns-in-Wait : goal.segment_stmt-returns-in-Wait
segment_stmt-returns-in-Wait t c = λ cs only waits rest m. meets_wait only c.args.own.now cs waits c.clear.new.self c.args.s.now c.in-Wait.field-0 rest c.in-Wait.is c.clear.ensures

pub segment_stmt-returns-in_ok-segment-in-If-2 : goal.segment_stmt-returns-in_ok-segment-in-If-2
segment_stmt-returns-in_ok-segment-in-If-2 t c = λ cs only waits rest m.
    let own = c.args.own.now in
    let s = c.args.s.now in
    let first = c.as_slice.ensures.elements in
    let second = c.as_slice-in-If.ensures.elements in
    let yes = subst (λ ss. Meets only own cs c.segment.new.live (before_rest waits ss rest)) first (c.in_ok-segment-in-If.ensures cs only waits rest m) in
    let no = subst (λ ss. Meets only own cs c.segment-in-If.new.live (before_rest waits ss rest)) second
    (c.in_ok-segment-in-If-2.ensures cs only waits rest (meets_alike only own cs c.args.live.now c.in_ok-other-in-If.other rest c.in_ok-other-in-If.ensures m)) in
    on_ok_under c.before_branches.result _ (λ d.
    let told = told_test only own cs waits s c.in-If.test c.in-If.yes c.in-If.no rest c.in-If.is d in
    on_ok c.before_branches.result (λ k. keeps_test only own cs waits c.before_branches.new.live s c.in-If.test c.in-If.yes c.in-If.no rest c.in-If.is k)
    (c.before_branches.ensures cs only (needs cs (segment_code (before_rest waits c.in-If.yes rest)) nothing nowhere) (needs cs (segment_code (before_rest waits c.in-If.no rest)) nothing nowhere)
    told.0 (yes told.1) (no told.2)))

pub segment_stmt-returns-in-Plain : goal.segment_stmt-returns-in-Plain
segment_stmt-returns-in-Plain t c = λ cs only waits rest m.
    on_ok c.plain.result (λ k. meets_whole only c.args.own.now cs waits c.plain.new.live c.args.s.now c.in-Plain.stmt rest c.in-Plain.is k) (c.plain.ensures cs only rest m)
