use Rattle.std.proofs.Common.{◌≤◌, ◌-◌, ◌<◌, ◌∙◌, arith, length, sym}
use Rattle.scc_inline_cells.proofs.Inside.{deepest_found, deepest_missed}
use Rattle.scc_inline_cells.proofs.homes.Homes.parent.Goals as goal

pub returns-in-Some : goal.returns-in-Some
returns-in-Some c = λ os h.
    let p : 0 < c.loop-k.k = omega (arith, c.loop-k-test.true) in
    deepest_found os c.args.path.now c.front.result.now c.loop-k.k c.in-Some.class p c.front.ensures (c.in-Some.ensures os h) ∙ sym (c.loop-k.invariant.rest os h)

pub loop-k-preserved : goal.loop-k-preserved
loop-k-preserved c =
    let p : 0 < c.loop-k.k = omega (arith, c.loop-k-test.true) in
    let w : c.loop-k.k - 1 ≤ length c.args.path.now = omega (arith, c.loop-k.invariant.within) in
    record {
      within = w;
      rest = λ os h. c.loop-k.invariant.rest os h ∙ deepest_missed os c.args.path.now c.front.result.now c.loop-k.k p c.front.ensures (c.in-None.ensures os h);
    }
