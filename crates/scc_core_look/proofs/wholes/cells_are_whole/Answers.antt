use Rattle.std.proofs.Common.{◌≡◌}
use Rattle.scc_core_look.proofs.Holding.{whole-cells}
use Rattle.scc_core_look.proofs.wholes.cells_are_whole.Goals as goal

pub returns : goal.returns
returns c = whole-cells c.args.cells.now c.as_slice.result.now c.as_slice-2.result.now c.are_few.result c.are_held.result c.both.result c.as_slice.ensures.elements c.as_slice-2.ensures.elements c.are_few.ensures c.are_held.ensures c.both.ensures
