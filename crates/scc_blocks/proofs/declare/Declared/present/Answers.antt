use Rattle.scc_blocks.proofs.Declaring.{cell_now}
use Rattle.scc_blocks.proofs.declare.Declared.present.Goals as goal

pub returns-clause-adds : goal.returns-clause-adds
returns-clause-adds c = cell_now c.args.names.now c.args.cell.now c.args.at c.in_ok-var.var c.args.self.now c.place.new.self c.in_ok-var.ensures c.in_ok-place.ensures.adds
