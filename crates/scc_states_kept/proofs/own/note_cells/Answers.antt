use Rattle.scc_states_kept.specs.Noted.{owns_at}
use Rattle.scc_states_kept.proofs.Noting.{notes_more, notes_start}
use Rattle.scc_states_kept.proofs.own.note_cells.Goals as goal

pub loop-cell-init : goal.loop-cell-init
loop-cell-init c = λ f k. notes_start c.args.cells.now.keys f (owns_at c.args.known c.args.process c.args.is_write) k

pub loop-cell-preserved : goal.loop-cell-preserved
loop-cell-preserved c = λ f k.
    notes_more (owns_at c.args.known c.args.process c.args.is_write) c.args.list.now c.loop-cell.cell-index c.note_cell.new.cells.keys f c.loop-cell-test.true
    (c.in_ok-note_cell.ensures _ (c.loop-cell.invariant f k))
