use Rattle.scc_states_kept.proofs.Noting.{inserted}
use Rattle.scc_states_kept.proofs.own.insert_cell.Goals as goal

pub returns : goal.returns
returns c = λ f k. inserted c.args.cells.now.keys c.insert.new.self.keys c.args.cell f c.in_ok-insert.ensures.keys k
