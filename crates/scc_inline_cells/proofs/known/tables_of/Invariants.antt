use Rattle.std.proofs.Common.{drop}
use Rattle.scc_inline_cells.proofs.Knowing.{Tabled}
use Rattle.scc_inline_cells.proofs.known.tables_of.Given as goal

abbrev pub invariant-loop-class : goal.invariant-loop-class
invariant-loop-class l = Tabled l.tables (drop l.class-index l.class-items) l.class-items
