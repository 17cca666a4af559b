use Rattle.std.proofs.Common.{◌≡◌, ◌+◌, ◌≤◌, List, ◌∷◌, map, sym, ◌∙◌, subst, arith}
use Rattle.std.proofs.lemmas.Result.{on_ok_weaker}
use Rattle.scc_lower_expressions.specs.declared.index.Open.{Open}
use Rattle.scc_lower_expressions.specs.Becoming.{given_of, opened_of, seen_of}
use Rattle.scc_lower.specs.Adding.{Adds, wanted_of}
use Rattle.scc_lower.proofs.Arms.{arm-of, case-added, one-more}
use Rattle.scc_lower.proofs.assign.+spread.Goals as goal

pub arm_of-returns : goal.arm_of-returns
arm_of-returns t c = λ k e.
    arm-of (given_of c.args.cells) (map seen_of c.args.cx.now.views.now) (opened_of c.args.dim) (map opened_of c.args.inner.now) c.args.first c.args.i c.in_ok-cell.cell (wanted_of c.args.written.now k e) c.number-label.result c.new-body.result c.spread.new.out
    c.new-body.ensures.empty c.in_ok-cell.ensures c.number-label.ensures.width (c.number-label.ensures.bits ∙ c.from.ensures) (c.in_ok-spread.ensures k e)

pub spread-loop-i-preserved : goal.spread-loop-i-preserved
spread-loop-i-preserved t c =
    let step : c.loop-i.i + 1 ≤ c.reach-i-end.result = omega arith in (
      step,
      one-more (given_of c.args.cells) (map seen_of c.args.cx.now.views.now) (opened_of c.in-Some.open.now) (map opened_of c.in-Some.inner.now) c.args.first c.args.written.now c.loop-i.i c.loop-i.arms c.push.new.self c.in_ok-arm.arm c.loop-i.invariant.1 c.in_ok-arm.ensures
          c.in_ok-push.ensures.ok,
    )

pub spread-returns : goal.spread-returns
spread-returns t c = λ k e.
    let g = given_of c.args.cells in
    let views = map seen_of c.args.cx.now.views.now in
    let o = c.in-Some.open.now in
    let made : c.args.opens.now ≡ o ∷ c.in-Some.inner.now = c.in-Some.ensures.cases.0 in
    let low : c.loop-i.i ≤ c.reach-i-end.result = c.loop-i.invariant.0 in
    let all : c.loop-i.i ≡ c.reach-i-end.result = omega arith in
    let R : List Open → Type 0 = λ os. Adds g views (map opened_of os) c.args.first (wanted_of c.args.written.now k e) c.args.out.now c.push-2.new.self in
    on_ok_weaker c.push-2.result
    (λ put. subst R (sym made)
    (case-added g views (opened_of o) (map opened_of c.in-Some.inner.now) c.args.first c.args.written.now c.loop-i.i c.loop-i.arms c.in_ok-of.of c.args.out.now c.push-2.new.self c.loop-i.invariant.1 (all ∙ c.reach-i-end.ensures) c.in_ok-of.ensures put k e))
    c.push-2.ensures.ok
