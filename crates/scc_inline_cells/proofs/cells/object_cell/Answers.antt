use Rattle.std.proofs.Common.{◌∙◌, ap, sym}
use Rattle.scc_elab_spec.specs.Cells.{object_cell as object_cell_in}
use Rattle.scc_plain_view.specs.Designs.{design_of, node_of, object_of}
use Rattle.scc_plain_view.specs.Plains.{plain_of}
use Rattle.scc_inline_cells.proofs.cells.object_cell.Goals as goal

pub returns-in_ok-variable_cell-in-Variable : goal.returns-in_ok-variable_cell-in-Variable
returns-in_ok-variable_cell-in-Variable c = λ k. c.in_ok-variable_cell-in-Variable.ensures k c.args.number
    ∙ ap (λ n. object_cell_in (plain_of c.args.s.now.plain.now) (design_of c.args.s.now.design.now) c.args.number (object_of c.args.object.now) (node_of n)) (sym c.in-Variable.is)
