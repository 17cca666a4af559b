-- The program that a core stands for. This project's own.
use Rattle.std.specs.Prelude.{Bool, true, false, List, map, option_map}
use Rattle.scc_base.specs.declared.path.PathPart.{PathPart}
use Rattle.scc_core.specs.declared.program.Core.{Core}
use Rattle.scc_core.specs.declared.program.Cell.{Cell as Held}
use Rattle.scc_core.specs.declared.program.CellSort.{CellSort}
use Rattle.scc_core.specs.declared.program.CellSort.TheVariants as held
use Rattle.scc_core.specs.declared.program.CoreProcess.{CoreProcess}
use Rattle.scc_core.specs.declared.program.Sort2.{Sort2}
use Rattle.scc_core.specs.declared.program.Sort2.TheVariants.{Method, Thread}
use Rattle.scc_core.specs.declared.program.Edge2.{Edge2}
use Rattle.scc_core.specs.declared.program.Reset2.{Reset2}
use Rattle.scc_core.specs.declared.program.VectorSize2.{VectorSize2}
use Rattle.scc_semantics.specs.Location.{Part}
use Rattle.scc_core_spec.specs.Program.{Program, Process, Cell, Sort, Edge, Reset, Vector}
use Rattle.scc_core_spec.specs.Program as program
use Rattle.scc_core_view.specs.Terms.{name_of, part_of}
use Rattle.scc_core_view.specs.Codes.{code_of}
use Rattle.scc_core_spec.specs.Static.{Cells}

abbrev pub path_of : List PathPart → List Part
path_of = map part_of

abbrev pub sort_of : CellSort → Sort
sort_of held.Input = program.Input
sort_of held.Output = program.Output
sort_of held.Signal = program.Signal
sort_of (held.Variable word is_fixed) = program.Variable word.bits is_fixed
sort_of (held.Local n) = program.Local n
sort_of (held.Pointer target) = program.Pointer (option_map path_of target)
sort_of (held.Port root) = program.Port (path_of root)

abbrev pub cell_of : Held → Cell
cell_of c = record { name = name_of c.name; kind = c.kind; sort = sort_of c.sort; place = c.place }

abbrev pub is_thread : Sort2 → Bool
is_thread Method = false
is_thread Thread = true

abbrev pub edge_of : Edge2 → Edge
edge_of e = record { cell = e.cell; rising = e.rising }

abbrev pub reset_of : Reset2 → Reset
reset_of r = record { cell = r.cell; level = r.level; asynchronous = r.asynchronous }

abbrev pub process_of : CoreProcess → Process
process_of p = record { is_thread = is_thread p.sort; name = name_of p.name; place = p.place; senses = p.senses; edge = option_map edge_of p.edge; reset = option_map reset_of p.reset; body = code_of p.body }

abbrev pub vector_of : VectorSize2 → Vector
vector_of v = record { path = path_of v.path; size = v.size }

abbrev pub cells_of : Core → Cells
cells_of c = map cell_of c.cells

abbrev pub program_of : Core → Program
program_of c = record { top = c.top.0; cells = cells_of c; vectors = map vector_of c.vectors; processes = map process_of c.processes }
