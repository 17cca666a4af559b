-- Processes without their bodies. This project's own.
use Rattle.std.specs.Prelude.{[], None}
use Rattle.scc_core_spec.specs.Code.{End}
use Rattle.scc_core_spec.specs.Term.{CellName}
use Rattle.scc_core_spec.specs.Program.{Process, Edge, Reset}
use Rattle.scc_elab_spec.specs.Program.{Plain}
use Rattle.scc_elab_spec.specs.Design as design
use Rattle.scc_elab_spec.specs.Design.{Design}
use Rattle.scc_elab_spec.specs.Cells.{cell_number}
use Rattle.scc_inline_spec.specs.Inlined.{process_path}

abbrev pub without_body : Process → Process
without_body q = record { is_thread = q.is_thread; name = q.name; place = q.place; senses = q.senses; edge = q.edge; reset = q.reset; body = End }

abbrev pub edge_in : Design → design.Edge → Edge
edge_in d e = record { cell = cell_number d e.root; rising = e.rising }

abbrev pub reset_in : Design → design.Reset → Reset
reset_in d r = record { cell = cell_number d r.root; level = r.level; asynchronous = r.asynchronous }

abbrev pub name_in : Plain → Design → design.Process → CellName
name_in p d q = record { path = process_path p d q; own = None; indices = [] }
