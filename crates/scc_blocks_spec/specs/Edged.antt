-- The clock, the edge and the asynchronous reset of a process, as a block at an edge has them (IEEE 1800-2017, 9.2.2.4; the names are this project's own).
use Rattle.std.specs.Prelude.{ℕ, Bool, List, [], ◌∷◌, Option, Some, None, option_map, slice_get, unwrap_or, if◌then◌else◌}
use Rattle.scc_blocks_spec.specs.Matches.{EdgeView}
use Rattle.scc_core_spec.specs.Program.{Process, Edge, Reset}
use Rattle.scc_core_spec.specs.Static.{Cells}
use Rattle.scc_core_spec.specs.Constants.{name_text}

abbrev pub cell_text : (ℕ → List ℕ) → Cells → ℕ → List ℕ
cell_text text cs c = unwrap_or (option_map (λ x. name_text text x.name) (slice_get cs c)) []

-- only an asynchronous reset stands beside the clock
abbrev pub own_reset : (ℕ → List ℕ) → Cells → Option Reset → Option (List ℕ × Bool)
own_reset text cs None = None
own_reset text cs (Some r) = if r.asynchronous then Some (cell_text text cs r.cell, r.level) else None

abbrev pub view_at : (ℕ → List ℕ) → Cells → Option Edge → Option Reset → List EdgeView
view_at text cs None r = []
view_at text cs (Some e) r = record { clock = cell_text text cs e.cell; rising = e.rising; reset = own_reset text cs r } ∷ []

-- none of a combinational method; a method at an edge has no reset
abbrev pub own_view : (ℕ → List ℕ) → Cells → Process → List EdgeView
own_view text cs q = view_at text cs q.edge (if q.is_thread then q.reset else None)
