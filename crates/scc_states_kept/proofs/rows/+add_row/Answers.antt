use Rattle.std.proofs.Common.{◌≡◌, ◌++◌, ◌-◌, ◌+◌, ap, ◌∙◌, take, drop, length}
use Rattle.std.specs.Prelude.{slice_index_or}
use Rattle.scc_states_kept.specs.Rows.{along, row_cells}
use Rattle.scc_states_kept.proofs.Further.{further_along}
use Rattle.scc_states_kept.proofs.rows.+add_row.Goals as goal

pub loop-preserved : goal.loop-preserved
loop-preserved t c =
    let dims = c.args.dims.now in
    let dim = slice_index_or dims 0 (record { size = 0; stride = 0; part = 0 }) in
    let f = row_cells (take (length dims - 1) (drop 1 dims)) in
    ap (λ h. c.add_row.new.cells.items ++ along f (dim.size - (c.loop.counter + 1)) dim.stride h) c.saturating_add-here.ensures
    ∙ further_along f dim.size c.loop.counter dim.stride c.loop.here c.loop.cells.items c.add_row.new.cells.items c.loop-test.true c.in_ok-add_row-in-len1-up.ensures
    ∙ c.loop.invariant
