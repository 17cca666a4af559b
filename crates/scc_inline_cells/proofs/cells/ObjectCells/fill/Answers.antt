use Rattle.std.proofs.Common.{◌∙◌, ap, sym}
use Rattle.scc_elab_spec.specs.Cells.{object_cell as object_cell_in}
use Rattle.scc_plain_view.specs.Designs.{design_of, object_of}
use Rattle.scc_plain_view.specs.Plains.{plain_of}
use Rattle.scc_inline_cells.proofs.Listing.{filling_next}
use Rattle.scc_inline_cells.proofs.cells.ObjectCells.fill.Goals as goal

pub loop-number-preserved : goal.loop-number-preserved
loop-number-preserved c = λ k e. filling_next (plain_of c.args.s.now.plain.now) c.args.s.now.design.now c.loop-number.self c.add.new.self c.loop-number.number c.in-Some.object.now c.in_ok-cell.cell
    (c.loop-number.invariant k e) (sym c.in-Some.ensures.element)
    (c.in_ok-cell.ensures k ∙ ap (λ n. object_cell_in (plain_of c.args.s.now.plain.now) (design_of c.args.s.now.design.now) n (object_of c.in-Some.object.now) (object_of c.in-Some.object.now).node) c.in_ok-numbered.ensures)
    c.in_ok-add.ensures
