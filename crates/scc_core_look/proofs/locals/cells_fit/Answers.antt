use Rattle.std.proofs.Common.{◌≡◌, ◌∙◌, ap, sym, true, map}
use Rattle.std.specs.List.{list_all}
use Rattle.scc_core_spec.specs.IsResolved.{fit_cell}
use Rattle.scc_core_view.specs.Programs.{cell_of, process_of}
use Rattle.scc_core_look.proofs.locals.cells_fit.Goals as goal

pub returns : goal.returns
returns c = λ vectors table e.
    ap (λ xs. list_all (fit_cell (map process_of c.args.processes.now) (map cell_of c.args.cells.now)) (map cell_of xs)) (sym c.as_slice.ensures.elements) ∙ c.all_fit.ensures vectors table e
