use Rattle.std.proofs.Common.{sym}
use Rattle.scc_elab_spec.specs.Cells.{cell_number}
use Rattle.scc_plain_view.specs.Designs.{design_of}
use Rattle.scc_inline.proofs.Titled.{senses_next}
use Rattle.scc_inline.proofs.heading.senses.Goals as goal

pub loop-number-preserved : goal.loop-number-preserved
loop-number-preserved c = λ h. senses_next (cell_number (design_of c.args.d.now)) c.loop-number.made c.push.new.self c.args.process.now.senses c.loop-number.number c.in-Some.root.now c.in_ok-cell.field-0
    (c.loop-number.invariant h) (sym c.in-Some.ensures.element) (c.in_ok-cell.ensures h) c.in_ok-push.ensures.ok
