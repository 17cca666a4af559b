use Rattle.std.specs.Prelude.{nat_eq}
use Rattle.scc_states_kept.proofs.Standing.{keeps_more}
use Rattle.scc_states_kept.proofs.slots.add_cells.Goals as goal

pub loop-cell-preserved : goal.loop-cell-preserved
loop-cell-preserved c = λ only f k.
    keeps_more only c.args.own.now (λ x y. nat_eq x y) c.args.cells.now c.loop-cell.cell-index 0 c.add_cell.new.live f c.loop-cell-test.true (c.in_ok-add_cell.ensures only _ (c.loop-cell.invariant only f k))
