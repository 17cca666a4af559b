use Rattle.std.proofs.Common.{◌∷◌, map, flat_map}
use Rattle.std.specs.List.{range_with_len}
use Rattle.scc_inline.proofs.Spreading.{spread_next}
use Rattle.scc_inline.proofs.elements.spread.Goals as goal

pub loop-i-preserved : goal.loop-i-preserved
loop-i-preserved c = spread_next (λ i. map (λ is. i ∷ is) c.args.inner.now) c.loop-i.all c.add_behind.new.all (flat_map (λ i. map (λ is. i ∷ is) c.args.inner.now) (range_with_len 0 c.args.size)) c.loop-i.i c.args.size
    c.loop-i-test.true c.loop-i.invariant c.in_ok-add_behind.ensures
