use Rattle.scc_blocks.proofs.Declaring.{cell_next}
use Rattle.scc_blocks.proofs.declare.Declared.next_value.Goals as goal

pub returns-clause-adds : goal.returns-clause-adds
returns-clause-adds c = cell_next c.args.names.now c.args.cell.now c.args.at c.in_ok-var.var c.args.self.now c.place.new.self c.in_ok-var.ensures c.in_ok-place.ensures.adds
