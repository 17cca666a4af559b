use Rattle.std.proofs.Common.{◌∙◌, None, Some}
use Rattle.scc_inline_cells.proofs.Inside.{found_is}
use Rattle.scc_inline_cells.proofs.homes.Homes.class_at.Goals as goal

pub returns-in-Some : goal.returns-in-Some
returns-in-Some c = λ os h. c.cell.ensures ∙ found_is c.args.self.now os c.args.path.now (Some c.in-Some.at) h c.in-Some.ensures

pub returns-in-None : goal.returns-in-None
returns-in-None c = λ os h. found_is c.args.self.now os c.args.path.now None h c.in-None.ensures
