use Rattle.std.proofs.Common.{◌≡◌, List, true, map, take}
use Rattle.std.specs.List.{list_all}
use Rattle.scc_core.specs.Tables.{IsTable}
use Rattle.scc_core.specs.declared.program.VectorSize2.{VectorSize2}
use Rattle.scc_core_spec.specs.IsResolved.{fit_cell}
use Rattle.scc_core_view.specs.Programs.{cell_of, process_of}
use Rattle.scc_core_look.proofs.locals.all_fit.Given as goal

abbrev pub invariant-loop-cell : goal.invariant-loop-cell
invariant-loop-cell l = (vectors : List VectorSize2) → IsTable l.places l.cells vectors → l.fit ≡ true → list_all (fit_cell (map process_of l.processes) (map cell_of l.cells)) (map cell_of (take l.cell-index l.some)) ≡ true
