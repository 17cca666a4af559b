use Rattle.std.proofs.Common.{◌≡◌, ◌<◌, ◌+◌, ap, arith, length}
use Rattle.scc_core.proofs.Trees.{table_more}
use Rattle.scc_core.proofs.places.Places.fill.Goals as goal

pub loop-cell-preserved : goal.loop-cell-preserved
loop-cell-preserved c =
    let i : c.loop-cell.cell-index < length c.args.cells.now = omega arith in (
      ap (λ n. n + 1) c.loop-cell.invariant.0,
      λ t. let a = c.loop-cell.invariant.1 t in
          table_more c.loop-cell.self c.add_cell.new.self c.args.cells.now c.loop-cell.cell-index c.loop-cell.number c.cell-item.result c.loop-cell.invariant.0 i c.cell-item.is a (c.in_ok-add_cell.ensures a.tree),
    )
