use Rattle.std.proofs.Common.{◌≡◌, ◌++◌, ◌-◌, length}
use Rattle.scc_states_kept.specs.Rows.{along, row_cells}
use Rattle.scc_states_kept.proofs.rows.+add_row.Given as goal

abbrev pub decreases-add_row : goal.decreases-add_row
decreases-add_row l = length l.dims.now

-- the cells so far and those to come are all
abbrev pub invariant-loop : goal.invariant-loop
invariant-loop l = l.cells.items ++ along (row_cells l.inner) (l.dim.size - l.counter) l.dim.stride l.here ≡ l.fn.cells.items ++ along (row_cells l.inner) l.dim.size l.dim.stride l.fn.cell
