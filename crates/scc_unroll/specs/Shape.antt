-- The parts of a counted loop, where a statement stands, and what is known around statements, as the code hands them on.
use Rattle.std.specs.Prelude.{◌≡◌, ℕ, true, List, [], ◌∷◌, map, slice_get, Option, Some, option_map}
use Rattle.scc_bits_kinds.specs.Kinds.{IsValid, Fits}
use Rattle.scc_core.specs.declared.copy.Counter.{Counter as Held}
use Rattle.scc_core.specs.declared.expr.CoreExpr.{CoreExpr}
use Rattle.scc_core.specs.declared.program.Cell.{Cell}
use Rattle.scc_core.specs.declared.statics.Known.{Known}
use Rattle.scc_core.specs.Counters.{counted}
use Rattle.scc_core.specs.Known.{facts_in}
use Rattle.scc_core.specs.Statics.{value_in}
use Rattle.scc_core_spec.specs.Code.{Code}
use Rattle.scc_core_spec.specs.Static.{Cells, static}
use Rattle.scc_core_spec.specs.Counted as spec
use Rattle.scc_core_spec.specs.Counted.{Counter, Counting, Setting, counting, turns_by, uses}
use Rattle.scc_core_view.specs.Codes.{code_of}
use Rattle.scc_core_view.specs.Programs.{cell_of, path_of}
use Rattle.scc_core_view.specs.Terms.{taken_of, term_of}
use Rattle.scc_unroll.specs.declared.counted.At.{At}
use Rattle.scc_unroll.specs.declared.counted.Counted.{Counted}
use Rattle.scc_unroll.specs.declared.shape.Stand.{Stand}
use Rattle.scc_unroll.specs.declared.shape.Stand.TheVariants as stand
use Rattle.scc_unroll.specs.declared.shape.Turning.{Turning}
use Rattle.scc_unroll_asked.specs.Read.{AreCounters, IsRead}
use Rattle.scc_unroll.specs.Used.{used}

abbrev pub turned : Turning → spec.Turning
turned t = record { test = term_of t.test.now; turn_place = t.place; turn = code_of t.turn.now; step_place = t.step_place; step_left = (taken_of t.step_left.now).left; step = term_of t.step.now }

-- these are the parts of that body, whose step assigns a location as a whole
pub record HasParts (t : Turning) (c : Code) : Type 0 where
  pub turning : spec.turning_of c ≡ Some (turned t)
  pub whole : spec.is_whole (taken_of t.step_left.now).pick ≡ true

abbrev pub stand_of : Stand → spec.Stand
stand_of stand.First = spec.First
stand_of (stand.Behind l e) = spec.Behind (record { left = (taken_of l.now).left; pick = (taken_of l.now).pick; value = term_of e.now })
stand_of stand.Elsewhere = spec.Elsewhere

-- a counted loop where these counters stand as literals
abbrev pub counting_of : Cells → List Counter → Counted → Counting
counting_of cs ns g = record { cell = g.cell; turns = turns_by cs ns g.cell (term_of g.start.now) (Some (turned g.turning)) }

abbrev pub cells_at : At → Cells
cells_at at = map cell_of at.known.cells.now

-- statements of that body
abbrev pub setting_of : At → Code → Setting
setting_of at b = record { cells = cells_at at; path = path_of at.path.now; body = b }

-- the table counts what the body assigns
abbrev pub Knows : At → Code → Type 0
Knows at b = (o : ℕ) → used at.uses.now o ≡ uses (cells_at at) o b

-- What is known around statements of that body, in which these counters stand as literals.
pub record Around (at : At) (b : Code) (ns : List Held) : Type 0 where
  pub knows : Knows at b
  pub counters : AreCounters at.known.cells.now ns

-- what is assigned before a statement has the value that the code finds for it
abbrev pub StandIsRead : Known → Stand → Type 0
StandIsRead known (stand.Behind l e) = IsRead known e.now
StandIsRead known _ = Unit {0}
