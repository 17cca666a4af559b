-- What resolving pointers keeps of a core.
use Rattle.std.specs.Prelude.{◌≡◌, ℕ, ◌+◌, min, Bool, nat_eq, List, [], ◌∷◌, map, filter, Option, Some, None, option_map, option_and_then, slice_get, if◌then◌else◌}
use Rattle.scc_base.specs.declared.refusal.Place.{Place}
use Rattle.scc_base.specs.declared.refusal.Refusal.{Refusal}
use Rattle.scc_core.specs.declared.program.Cell.{Cell}
use Rattle.scc_core.specs.declared.program.CellName.{CellName}
use Rattle.scc_core.specs.declared.program.Core.{Core}
use Rattle.scc_core.specs.declared.program.CoreProcess.{CoreProcess}
use Rattle.scc_core.specs.declared.program.Sort2.{Sort2}
use Rattle.scc_core.specs.declared.program.Edge2.{Edge2}
use Rattle.scc_core.specs.declared.program.Reset2.{Reset2}
use Rattle.scc_core_spec.specs.Code.{End}
use Rattle.scc_core_spec.specs.Program.{Process, Program}
use Rattle.scc_core_spec.specs.Resolved.{Made, Stopped}
use Rattle.scc_core_spec.specs.Renumbered.{is_kept_cell, new_number, renamed_process}
use Rattle.scc_core_view.specs.Programs.{program_of}
use Rattle.scc_pointers_laws.specs.Ready.{IsAsked}
use Rattle.scc_pointers_spec.specs.Freed.{freed_program}
use Rattle.scc_pointers_walk.specs.Pointers.{IsOfPointers, is_pointer}

-- what stands in the place of a number where the cell goes
abbrev pub gone : ℕ
gone = 4294967295

-- the new numbers of cells: those that stay are counted, from n on
abbrev pub new_numbers : ℕ → List Cell → List ℕ
new_numbers n [] = []
new_numbers n (c ∷ cs) = if is_pointer c then gone ∷ new_numbers n cs else min n gone ∷ new_numbers (n + 1) cs

-- what of a process stays: all but its body, and of each cell its new number
pub record Title : Type 0 where
  pub sort : Sort2
  pub name : CellName
  pub place : Place
  pub senses : List (Option ℕ)
  -- the clock, and whether it rises
  pub edge : Option (Option ℕ × Bool)
  -- the signal, the level at which it is active, and whether it is asynchronous
  pub reset : Option (Option ℕ × Bool × Bool)

abbrev pub edge_by : (ℕ → Option ℕ) → Edge2 → Option ℕ × Bool
edge_by f e = (f e.cell, e.rising)

abbrev pub reset_by : (ℕ → Option ℕ) → Reset2 → Option ℕ × Bool × Bool
reset_by f r = (f r.cell, r.level, r.asynchronous)

abbrev pub title_by : (ℕ → Option ℕ) → CoreProcess → Title
title_by f p =
    record { sort = p.sort; name = p.name; place = p.place; senses = map f p.senses; edge = option_map (edge_by f) p.edge; reset = option_map (reset_by f) p.reset }

-- a process as it is
abbrev pub title_of : CoreProcess → Title
title_of = title_by Some

-- the new number of a cell that stays
abbrev pub number_in : List ℕ → ℕ → Option ℕ
number_in numbers n = option_and_then (λ k. if nat_eq k gone then None else Some k) (slice_get numbers n)

-- a process as it is told by new numbers
abbrev pub title_in : List ℕ → CoreProcess → Title
title_in numbers = title_by (number_in numbers)

-- all of a process but its body
abbrev pub without_body : Process → Process
without_body q = record { is_thread = q.is_thread; name = q.name; place = q.place; senses = q.senses; edge = q.edge; reset = q.reset; body = End }

-- all of a process but its body, with the new numbers of cells
abbrev pub renumbered : Program → Process → Process
renumbered p q = renamed_process (new_number p.cells) q End

-- a program is the resolved one of another in all but the bodies of processes
pub record IsRenumbered (p r : Program) : Type 0 where
  pub top : r.top ≡ p.top
  pub cells : r.cells ≡ filter is_kept_cell p.cells
  pub vectors : r.vectors ≡ p.vectors
  pub processes : map without_body r.processes ≡ map (renumbered p) p.processes

-- The program of a core is the resolved one of another's in all but the bodies of processes.
pub record KeepsObjects (c m : Core) : Type 0 where
  pub program : IsRenumbered (program_of c) (program_of m)

-- ---- what is given, and what is refused

pub record IsResolved (c m : Core) : Type 0 where
  pub keeps : KeepsObjects c m
  pub program : IsAsked c → freed_program (program_of c) ≡ Made (program_of m)

pub record IsRefused (c : Core) (r : Refusal) : Type 0 where
  pub code : IsOfPointers r
  pub refusal : IsAsked c → freed_program (program_of c) ≡ Stopped r
