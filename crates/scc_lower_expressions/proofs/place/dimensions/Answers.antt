use Rattle.std.proofs.Common.{◌<◌, length, arith}
use Rattle.scc_core.proofs.Trees.{get_own}
use Rattle.scc_lower_expressions.proofs.Steps.{located-more}
use Rattle.scc_lower_expressions.proofs.place.dimensions.Goals as goal

pub loop-dim-preserved : goal.loop-dim-preserved
loop-dim-preserved c =
    let i : c.loop-dim.dim-index < length c.args.dims.now = omega arith in
    located-more c.args.left.now.parts c.args.dims.now c.loop-dim.dim-index _ c.loop-dim.found.items c.push.new.items.items c.in_ok-chosen_in.field-0 i (get_own c.args.dims.now c.loop-dim.dim-index _) c.in_ok-push.ensures.ok c.loop-dim.invariant c.in_ok-chosen_in.ensures
