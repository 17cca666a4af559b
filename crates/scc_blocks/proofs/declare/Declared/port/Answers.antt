use Rattle.std.proofs.Common.{sym}
use Rattle.scc_blocks.proofs.Declaring.{port_is}
use Rattle.scc_blocks.proofs.declare.Declared.port.Goals as goal

pub returns-clause-adds : goal.returns-clause-adds
returns-clause-adds c = port_is c.args.names.now c.args.cell.now c.in-Some.dir c.args.at c.in_ok-var.var c.args.self.now c.place.new.self (sym c.in-Some.ensures) c.in_ok-var.ensures c.in_ok-place.ensures.adds
