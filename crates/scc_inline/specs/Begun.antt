-- What the core of a design begins with: its top, its vectors, the cells of its objects, and each process without its body. This project's own.
use Rattle.std.specs.Prelude.{◌≡◌, ℕ, List, map, length, take, option_map, slice_get, unwrap_or}
use Rattle.scc_core.specs.declared.program.Cell.{Cell}
use Rattle.scc_core.specs.declared.program.CoreProcess.{CoreProcess}
use Rattle.scc_core_spec.specs.Program as prog
use Rattle.scc_core_spec.specs.Program.{Process}
use Rattle.scc_core_view.specs.Programs.{process_of as core_process}
use Rattle.scc_elab_spec.specs.Cells.{object_cells}
use Rattle.scc_elab_spec.specs.Design as design
use Rattle.scc_elab_spec.specs.Design.{Design}
use Rattle.scc_elab_spec.specs.Program.{Plain}
use Rattle.scc_inline_spec.specs.Inlined.{copied_from, copied_process, copied_program}
use Rattle.scc_inline.specs.declared.scope.Growing.{Growing}
use Rattle.scc_inline.specs.Headings.{without_body}

-- these cells come first
abbrev pub Begins : List Cell → Growing → Type 0
Begins front g = take (length front) g.cells ≡ front

-- cells are only added
abbrev pub Keeps : Growing → Growing → Type 0
Keeps old new = (front : List Cell) → Begins front old → Begins front new

abbrev pub top_in : Plain → ℕ
top_in p = unwrap_or (option_map (λ c. c.name) (slice_get p.classes p.top)) 0

abbrev pub heading_of : CoreProcess → Process
heading_of q = without_body (core_process q)

abbrev pub are_headings : List CoreProcess → List Process
are_headings qs = map heading_of qs

abbrev pub copied_headings : Plain → Design → List Process
copied_headings p d = map without_body (copied_from p d 0 d.processes)

-- whatever number the process has
abbrev pub IsHeading : Plain → Design → design.Process → CoreProcess → Type 0
IsHeading p d q made = (i : ℕ) → heading_of made ≡ without_body (copied_process p d i q)

-- of the core that the definition gives
pub record IsBegun (p : Plain) (d : Design) (c : prog.Program) : Type 0 where
  pub top : c.top ≡ (copied_program p d).top
  pub vectors : c.vectors ≡ (copied_program p d).vectors
  pub cells : take (length (object_cells p d)) c.cells ≡ object_cells p d
  pub headings : map without_body c.processes ≡ map without_body (copied_program p d).processes
