use Rattle.std.proofs.Common.{◌≡◌, ◌<◌, ◌-◌, ◌+◌, arith, map, true, length}
use Rattle.scc_elab_worth.specs.Sites.{around, spot_of}
use Rattle.scc_elab_worth.specs.Worths as seen
use Rattle.scc_elab_worth.proofs.Chains.{over_stops_at, beyond_stops_at, walk_goes, walk_stops}
use Rattle.scc_elab_worth.proofs.walk.+worth.Goals as goal

pub value-returns-in-Err : goal.value-returns-in-Err
value-returns-in-Err t c = let g = around c.args.s.now in
    over_stops_at (λ v. v) (map (λ x. seen.expr g x.now) c.loop-outer.spine.items) c.loop-outer.value c.in-Err.stop (seen.expr g c.args.e.now).known c.in-Err.is c.loop-outer.invariant

pub pointer_at-returns-in-Err : goal.pointer_at-returns-in-Err
pointer_at-returns-in-Err t c = let g = around c.args.s.now in
    beyond_stops_at spot_of c.args.soft (map (λ x. seen.left g x.now) c.loop-outer.spine.items) c.loop-outer.at c.in-Err.stop ((seen.left g c.args.left.now).at c.args.soft true) c.in-Err.is c.loop-outer.invariant

pub walked-returns-in-Err : goal.walked-returns-in-Err
walked-returns-in-Err t c =
    let g = around c.args.s.now in
    let h : c.loop-part.part-index < length c.args.parts.now = omega arith in
    let n : c.saturating_sub-left.result ≡ length c.args.parts.now - (c.loop-part.part-index + 1) = omega (arith, c.saturating_sub-left.ensures, c.loop-part.invariant.count) in
    walk_stops spot_of c.args.place c.args.soft c.args.follow (seen.part g) c.args.parts.now c.loop-part.part-index c.part-item.result (spot_of c.loop-part.at) c.saturating_sub-left.result c.goes_on.result
    (seen.walked c.args.place c.args.soft c.args.follow (map (seen.part g) c.args.parts.now) (spot_of c.args.from)) c.in-Err.stop h c.part-item.is n c.goes_on.ensures c.loop-part.invariant.walk c.in-Err.ensures

pub walked-loop-part-preserved : goal.walked-loop-part-preserved
walked-loop-part-preserved t c =
    let g = around c.args.s.now in
    let h : c.loop-part.part-index < length c.args.parts.now = omega arith in
    let n : c.saturating_sub-left.result ≡ length c.args.parts.now - (c.loop-part.part-index + 1) = omega (arith, c.saturating_sub-left.ensures, c.loop-part.invariant.count) in
    record {
      walk = walk_goes c.args.place c.args.soft c.args.follow (seen.part g) c.args.parts.now c.loop-part.part-index c.part-item.result (spot_of c.loop-part.at) (spot_of c.in-Ok.next) c.saturating_sub-left.result c.goes_on.result
          (seen.walked c.args.place c.args.soft c.args.follow (map (seen.part g) c.args.parts.now) (spot_of c.args.from)) h c.part-item.is n c.goes_on.ensures c.loop-part.invariant.walk c.in-Ok.ensures;
      count = n;
    }
