use Rattle.std.proofs.Common.{◌≡◌, slice_get, sym, ap, ◌∙◌}
use Rattle.scc_core_spec.specs.Source.{cell_location}
use Rattle.scc_blocks_names.proofs.Named.{same_text, same_cell, same_some}
use Rattle.scc_blocks_names.proofs.Behind.{process_name}
use Rattle.scc_blocks_names.proofs.laws.cells_have_names_of_their_own.Goals as goal

pub returns-clause-cells : goal.returns-clause-cells
returns-clause-cells c = same_cell

pub returns-clause-locations : goal.returns-clause-locations
returns-clause-locations c = λ names d p n home b e x y f g h k t.
    let one : b ≡ e = same_cell names d p n b e x y f g h k t in
    ap (cell_location home p) (same_some x y (sym f ∙ ap (slice_get p.cells) one ∙ g))

pub returns-clause-processes : goal.returns-clause-processes
returns-clause-processes c = λ names d p n i j q r e f t. n.processes_differ i j q r e f (same_text names n.table d n.apart q.name r.name (process_name names d q.name (n.processes i q e)) (process_name names d r.name (n.processes j r f)) t)
