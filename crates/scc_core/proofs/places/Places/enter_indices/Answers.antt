use Rattle.std.proofs.Common.{◌≡◌, ◌<◌, ◌++◌, arith, length, map, take}
use Rattle.scc_core.proofs.Trees.{get_own, indices_more, none_on}
use Rattle.scc_core.proofs.places.Places.enter_indices.Goals as goal

pub loop-i-init : goal.loop-i-init
loop-i-init c = λ ss t r. none_on c.args.self.now ss c.args.from t r

pub loop-i-preserved : goal.loop-i-preserved
loop-i-preserved c = λ ss t r.
    let i : c.loop-i.i-index < length c.args.indices.now = omega arith in
    let a = c.loop-i.invariant ss t r in
    indices_more c.args.self.now c.loop-i.self c.enter_index.new.self ss c.args.indices.now c.loop-i.i-index _ _ _ i (get_own c.args.indices.now c.loop-i.i-index _) a (c.in_ok-at.ensures _ a.extends.tree a.reaches)
