use Rattle.std.proofs.Common.{◌≡◌, ◌<◌, refl, sym, ap, arith, length, map, take}
use Rattle.scc_core.specs.Names.{step_of}
use Rattle.scc_core.proofs.Trees.{entered_own, get_own, path_more}
use Rattle.scc_core.proofs.places.Places.enter_path.Goals as goal

pub loop-part-init : goal.loop-part-init
loop-part-init c = λ t. entered_own c.args.self.now _ 0 t refl

pub loop-part-preserved : goal.loop-part-preserved
loop-part-preserved c = λ t.
    let i : c.loop-part.part-index < length c.args.path.now = omega arith in
    let a = c.loop-part.invariant t in
    path_more c.args.self.now c.loop-part.self c.enter_part.new.self c.args.path.now c.loop-part.part-index _ _ _ i (get_own c.args.path.now c.loop-part.part-index _) a (c.in_ok-at.ensures _ a.extends.tree a.reaches)
