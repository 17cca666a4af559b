use Rattle.std.proofs.Common.{sym}
use Rattle.scc_plain_view.specs.Designs.{design_of}
use Rattle.scc_inline.proofs.Titled.{cell_ok}
use Rattle.scc_inline.proofs.heading.cell.Goals as goal

pub returns-in-Some : goal.returns-in-Some
returns-in-Some c = λ h. cell_ok c.numbered.result (design_of c.args.d.now) c.args.cells.now c.args.object c.in-Some.found.now h (sym c.in-Some.ensures.element) c.numbered.ensures
