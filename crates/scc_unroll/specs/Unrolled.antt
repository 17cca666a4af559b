-- What unrolling gives for a core, and how it refuses.
use denote.Ref.{Bor}
use Rattle.std.specs.Prelude.{◌≡◌, ◌⊎◌, ℕ, nat_lt, List, [], ◌∷◌, ◌++◌, map, slice_get, Option, Some, None}
use Rattle.scc_base.specs.declared.code.Code.TheVariants as code
use Rattle.scc_base.specs.declared.refusal.Place.{Place}
use Rattle.scc_base.specs.declared.refusal.Refusal.{Refusal}
use Rattle.scc_core.specs.declared.program.CellName.{CellName}
use Rattle.scc_core.specs.declared.program.Core.{Core}
use Rattle.scc_core.specs.declared.program.CoreProcess.{CoreProcess}
use Rattle.scc_core.specs.declared.program.Edge2.{Edge2}
use Rattle.scc_core.specs.declared.program.Reset2.{Reset2}
use Rattle.scc_core.specs.declared.program.Sort2.{Sort2}
use Rattle.scc_core.specs.declared.places.Places.{Places}
use Rattle.scc_core.specs.declared.statics.Known.{Known}
use Rattle.scc_core.specs.Tables.{IsTable}
use Rattle.scc_core_spec.specs.Code.{Code, size}
use Rattle.scc_core_spec.specs.Counted.{Elsewhere, Setting}
use Rattle.scc_core_spec.specs.First.{or_else, refused, when}
use Rattle.scc_core_spec.specs.Program.{Process}
use Rattle.scc_core_spec.specs.Static.{Cells}
use Rattle.scc_core_spec.specs.Unrolled.{earlier, first_spot, run_turns, setting_of, uncounted, unrolled, unrolled_program, unrolling_refuses}
use Rattle.scc_core_view.specs.Programs.{program_of}
use Rattle.scc_unroll_asked.specs.Copied.{HaveCopies}
use Rattle.scc_unroll_asked.specs.Cores.{IsAsked}

-- a process but for its body
pub record Head : Type 0 where
  pub sort : Sort2
  pub name : CellName
  pub place : Place
  pub senses : List ℕ
  pub edge : Option Edge2
  pub reset : Option Reset2

abbrev pub head_of : CoreProcess → Head
head_of p = record { sort = p.sort; name = p.name; place = p.place; senses = p.senses; edge = p.edge; reset = p.reset }

-- the top, the cells, the vectors and the processes but for their bodies stay
pub record KeepsAllButBodies (c m : Core) : Type 0 where
  pub top : m.top ≡ c.top
  pub cells : m.cells ≡ c.cells
  pub vectors : m.vectors ≡ c.vectors
  pub processes : map head_of m.processes ≡ map head_of c.processes

-- a loop that isn't counted, or too many turns
abbrev pub IsOfUnrolling : Refusal → Type 0
IsOfUnrolling r = (r.code ≡ code.UncountedLoop) ⊎ (r.code ≡ code.TooManyTurns)

-- what is refused of a body, of a process at that place
abbrev pub refusal_in : Setting → Place → Code → Option Refusal
refusal_in s p c = or_else
    (earlier (first_spot (uncounted s [] Elsewhere 0 c)) (slice_get (run_turns s [] Elsewhere 0 c) 4096))
    (when (nat_lt 65536 (size (unrolled s [] Elsewhere c))) (refused code.TooManyTurns p))

-- the unrolled body of a process
abbrev pub body_of : Cells → Process → Code
body_of cs q = unrolled (setting_of cs q) [] Elsewhere q.body

-- ---- what is given, and what is refused

-- The expressions and locations of each body are copies of those of the body before, in which counters stand as literals, or literals.
pub record IsUnrolled (c m : Core) : Type 0 where
  pub keeps : KeepsAllButBodies c m
  pub copies : HaveCopies c.cells c.processes m.processes
  pub accepted : IsAsked c → unrolling_refuses (program_of c) ≡ None
  pub program : IsAsked c → program_of m ≡ unrolled_program (program_of c)

pub record IsRefused (c : Core) (r : Refusal) : Type 0 where
  pub code : IsOfUnrolling r
  pub refusal : IsAsked c → unrolling_refuses (program_of c) ≡ Some r
