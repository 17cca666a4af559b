use Rattle.std.proofs.Common.{◌≡◌, ◌++◌, map, drop}
use Rattle.scc_elab_spec.specs.Cells.{cell_number}
use Rattle.scc_inline_cells.specs.Listed.{counted}
use Rattle.scc_plain_view.specs.Designs.{design_of}
use Rattle.scc_inline.proofs.heading.senses.Given as goal

abbrev pub invariant-loop-number : goal.invariant-loop-number
invariant-loop-number l = l.cells ≡ counted 0 (design_of l.d).objects → l.made ++ map (cell_number (design_of l.d)) (drop l.number l.process.senses) ≡ map (cell_number (design_of l.d)) l.process.senses
