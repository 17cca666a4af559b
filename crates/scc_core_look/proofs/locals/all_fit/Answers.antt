use Rattle.std.proofs.Common.{◌≡◌, ◌<◌, ◌≤◌, ◌∙◌, ap, sym, true, length, map, arith}
use Rattle.std.specs.List.{list_all}
use Rattle.scc_core_spec.specs.IsResolved.{fit_cell}
use Rattle.scc_core_view.specs.Programs.{cell_of, process_of}
use Rattle.scc_core_look.proofs.Alike.{all-on, taken-whole}
use Rattle.scc_core_look.proofs.locals.all_fit.Goals as goal

pub loop-cell-preserved : goal.loop-cell-preserved
loop-cell-preserved c = λ vectors table.
    let h : c.loop-cell.cell-index < length c.args.some.now = omega arith in
    all-on (fit_cell (map process_of c.args.processes.now) (map cell_of c.args.cells.now)) cell_of c.args.some.now c.loop-cell.cell-index c.cell-item.result h c.cell-item.is c.loop-cell.fit c.cell_fits.result c.both-fit.result
    (c.loop-cell.invariant vectors table) (c.cell_fits.ensures vectors table) c.both-fit.ensures

pub returns : goal.returns
returns c = λ vectors table e.
    let h : length c.args.some.now ≤ c.loop-cell.cell-index = omega arith in
    ap (λ xs. list_all (fit_cell (map process_of c.args.processes.now) (map cell_of c.args.cells.now)) (map cell_of xs)) (sym (taken-whole c.args.some.now c.loop-cell.cell-index h)) ∙ c.loop-cell.invariant vectors table e
