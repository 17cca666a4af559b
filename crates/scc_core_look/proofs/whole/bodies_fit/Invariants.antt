use Rattle.std.proofs.Common.{◌≡◌, List, true, map, take}
use Rattle.std.specs.List.{list_all}
use Rattle.scc_core.specs.Tables.{IsTable}
use Rattle.scc_core.specs.declared.program.VectorSize2.{VectorSize2}
use Rattle.scc_core_spec.specs.IsResolved.{cells_apart}
use Rattle.scc_core_view.specs.Programs.{cell_of, process_of}
use Rattle.scc_core_view.specs.Whole.{AreWholeCells}
use Rattle.scc_core_whole.specs.Parts.{HaveNames}
use Rattle.scc_core_look.specs.Fits.{body_fits}
use Rattle.scc_core_look.specs.Rows.{cell_covered}
use Rattle.scc_core_look.proofs.whole.bodies_fit.Given as goal

abbrev pub invariant-loop-process : goal.invariant-loop-process
invariant-loop-process l = (vectors : List VectorSize2) → IsTable l.places l.cells vectors → cells_apart (map cell_of l.cells) ≡ true → HaveNames l.cells → AreWholeCells l.cells → list_all (cell_covered l.rows l.cells) l.cells ≡ true
    → l.fit ≡ true → list_all (body_fits (map cell_of l.cells)) (map process_of (take l.process-index l.processes)) ≡ true
