use Rattle.scc_core_spec.specs.Uses.{among}
use Rattle.scc_states_kept.specs.Rows.{cells_in}
use Rattle.scc_states_kept.proofs.Standing.{keeps_next, keeps_all}
use Rattle.scc_states_kept.proofs.slots.add_reads.Goals as goal

pub loop-load-preserved : goal.loop-load-preserved
loop-load-preserved c = λ only f k.
    keeps_next only c.args.own.now (λ x y. among x (cells_in c.args.own.now.known y.left.now)) c.args.loads.now c.loop-load.load-index c.load-item.result c.add_read.new.live f c.loop-load-test.true c.load-item.is
    (c.in_ok-add_read.ensures only _ (c.loop-load.invariant only f k))

pub returns : goal.returns
returns c = λ only f k.
    keeps_all only c.args.own.now (λ x y. among x (cells_in c.args.own.now.known y.left.now)) c.args.loads.now c.loop-load.load-index c.loop-load.live f c.loop-load-test.false (c.loop-load.invariant only f k)
