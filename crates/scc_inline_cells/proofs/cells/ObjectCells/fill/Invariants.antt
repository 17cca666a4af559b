use Rattle.scc_plain_view.specs.Designs.{design_of}
use Rattle.scc_plain_view.specs.Plains.{plain_of}
use Rattle.scc_inline_cells.specs.Known.{IsKnown}
use Rattle.scc_inline_cells.specs.Listed.{IsEmpty}
use Rattle.scc_inline_cells.proofs.Listing.{Filling}
use Rattle.scc_inline_cells.proofs.cells.ObjectCells.fill.Given as goal

abbrev pub invariant-loop-number : goal.invariant-loop-number
invariant-loop-number l = IsKnown l.s.known.now l.s.plain.now l.s.design.now → IsEmpty l.initial.self → Filling (plain_of l.s.plain.now) (design_of l.s.design.now) l.self l.number
