use Rattle.std.proofs.Common.{◌≡◌, ◌≤◌, ◌<◌, ◌/◌, sym, ◌∙◌, arith, length}
use Rattle.scc_core.specs.Known.{facts_in}
use Rattle.scc_core.specs.Rests.{steps_in}
use Rattle.scc_core.specs.Elements.{step_at}
use Rattle.scc_core.specs.Statics.{part_in}
use Rattle.scc_core.proofs.Along.{none_over, some_over, half_over}
use Rattle.scc_core.proofs.Loops.{others, other_step, same_step_on, no_part}
use Rattle.scc_core.proofs.statics.Known.+value.Goals as goal

pub climb-returns-in-Some : goal.climb-returns-in-Some
climb-returns-in-Some t c = λ h.
    let g = facts_in c.args.self.now in
    let half = c.args.levels / 2 in
    let l : half ≤ c.args.levels = omega arith in
    c.climb-in-Some.ensures (some_over g half c.args.e.now c.down.result.now c.in-Some.of c.down.ensures.down (sym c.in-Some.is ∙ c.climb.ensures (half_over g c.args.levels half c.args.e.now c.down.result.now c.args.of l c.down.ensures.down h)))

pub climb-returns-in-None : goal.climb-returns-in-None
climb-returns-in-None t c = λ h.
    let g = facts_in c.args.self.now in
    let half = c.args.levels / 2 in
    let l : half ≤ c.args.levels = omega arith in
    none_over g half c.args.e.now c.down.result.now c.down.ensures.down (sym c.in-None.is ∙ c.climb.ensures (half_over g c.args.levels half c.args.e.now c.down.result.now c.args.of l c.down.ensures.down h))

pub number-returns-in-None : goal.number-returns-in-None
number-returns-in-None t c = none_over (facts_in c.args.self.now) c.innermost-height.result.0 c.args.e.now c.innermost-height.result.1.now c.innermost-height.ensures.down (sym c.in-None.is ∙ c.number.ensures)

pub number-returns-in-None-leaf : goal.number-returns-in-None-leaf
number-returns-in-None-leaf t c =
    let h : c.innermost-height.result.0 < 18446744073709551615 = omega arith in
    none_over (facts_in c.args.self.now) c.innermost-height.result.0 c.args.e.now c.innermost-height.result.1.now c.innermost-height.ensures.down (sym c.in-None-leaf.is ∙ c.leaf.ensures (c.innermost-height.ensures.end h))

pub are-returns-then-len-parts : goal.are-returns-then-len-parts
are-returns-then-len-parts t c = others (step_at c.args.first) (part_in (facts_in c.args.self.now)) c.args.parts.now (steps_in c.args.rest) (λ e. c.if-len-parts.true (c.len.ensures ∙ e))

pub are-returns-then-not-same : goal.are-returns-then-not-same
are-returns-then-not-same t c =
    let p = step_at c.args.first in
    let q = part_in (facts_in c.args.self.now) in
    let bs = steps_in c.args.rest in
    let k = c.loop-k.k in
    let long : length bs ≡ length c.args.parts.now = sym c.len.ensures ∙ c.if-len-parts.false in
    let h : k < length c.args.parts.now = omega arith in
    other_step p q c.args.parts.now bs k c.index-parts-k.result c.step.result c.step-in-loop-k.result long h c.index-parts-k.is c.step.ensures c.step-in-loop-k.ensures c.if-not-same.ensures
    ∙ c.loop-k.invariant

pub are-returns : goal.are-returns
are-returns t c =
    let p = step_at c.args.first in
    let q = part_in (facts_in c.args.self.now) in
    let bs = steps_in c.args.rest in
    let long : length bs ≡ length c.args.parts.now = sym c.len.ensures ∙ c.if-len-parts.false in
    sym (no_part p q c.args.parts.now bs c.loop-k.k long c.loop-k-test.false) ∙ c.loop-k.invariant

pub are-loop-k-preserved : goal.are-loop-k-preserved
are-loop-k-preserved t c =
    let p = step_at c.args.first in
    let q = part_in (facts_in c.args.self.now) in
    let bs = steps_in c.args.rest in
    let k = c.loop-k.k in
    let long : length bs ≡ length c.args.parts.now = sym c.len.ensures ∙ c.if-len-parts.false in
    let h : k < length c.args.parts.now = omega arith in
    same_step_on p q c.args.parts.now bs k c.index-parts-k.result c.step.result c.step-in-loop-k.result long h c.index-parts-k.is c.step.ensures c.step-in-loop-k.ensures c.if-not-same.ensures
    ∙ c.loop-k.invariant
