use Rattle.std.proofs.Common.{◌≡◌, ◌<◌, ◌≤◌, length, subst, arith}
use Rattle.scc_core_look.specs.Wholes.{AreHeld}
use Rattle.scc_core_look.proofs.Alike.{taken-whole}
use Rattle.scc_core_look.proofs.Holding.{held-on, none-held}
use Rattle.scc_core_look.proofs.wholes.are_held.Goals as goal

pub loop-cell-init : goal.loop-cell-init
loop-cell-init c = λ e. none-held

pub loop-cell-preserved : goal.loop-cell-preserved
loop-cell-preserved c =
    let h : c.loop-cell.cell-index < length c.args.cells.now = omega arith in
    held-on c.args.cells.now c.loop-cell.cell-index c.cell-item.result h c.cell-item.is c.loop-cell.held c.is_held.result c.both-held.result c.loop-cell.invariant c.is_held.ensures c.both-held.ensures

pub returns : goal.returns
returns c = λ e.
    let h : length c.args.cells.now ≤ c.loop-cell.cell-index = omega arith in
    subst AreHeld (taken-whole c.args.cells.now c.loop-cell.cell-index h) (c.loop-cell.invariant e)
