use Rattle.std.proofs.Common.{false}
use Rattle.scc_core_spec.specs.Uses.{among}
use Rattle.scc_states_kept.specs.Noted.{owns_at}
use Rattle.scc_states_kept.specs.Rows.{cells_in}
use Rattle.scc_states_kept.proofs.Noting.{notes_all, notes_next, notes_start}
use Rattle.scc_states_kept.proofs.own.note_reads.Goals as goal

pub loop-load-init : goal.loop-load-init
loop-load-init c = λ f k. notes_start c.args.cells.now.keys f (owns_at c.args.known c.args.process false) k

pub loop-load-preserved : goal.loop-load-preserved
loop-load-preserved c = λ f k.
    notes_next (owns_at c.args.known c.args.process false) (λ x y. among x (cells_in c.args.known y.left.now)) c.args.loads.now c.loop-load.load-index c.load-item.result c.note_read.new.cells.keys f c.loop-load-test.true c.load-item.is
    (c.in_ok-note_read.ensures _ (c.loop-load.invariant f k))

pub returns : goal.returns
returns c = λ f k.
    notes_all (owns_at c.args.known c.args.process false) (λ x y. among x (cells_in c.args.known y.left.now)) c.args.loads.now c.loop-load.load-index c.loop-load.cells.keys f c.loop-load-test.false (c.loop-load.invariant f k)
