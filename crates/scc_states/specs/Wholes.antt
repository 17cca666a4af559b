-- Threads of which all tests and values are whole, and whose locations are found as the definitions find them: what a table of names tells of such
-- a thread is what the definitions say. This project's own.
use Rattle.std.specs.Prelude.{◌≡◌, ℕ, ◌&&◌, false, [], slice_get, Some, option_map, unwrap_or}
use Rattle.scc_core.specs.declared.expr.CoreLeft.{CoreLeft}
use Rattle.scc_core.specs.declared.program.Core.{Core}
use Rattle.scc_core.specs.declared.program.CoreProcess.{CoreProcess}
use Rattle.scc_core.specs.declared.program.Sort2.TheVariants.{Thread}
use Rattle.scc_core.specs.declared.statics.Known.{Known}
use Rattle.scc_core.specs.Located.{named_in}
use Rattle.scc_core_flow.specs.Live.{Each, tests_in}
use Rattle.scc_core_spec.specs.Split.{one_cell}
use Rattle.scc_core_spec.specs.Static.{Cells}
use Rattle.scc_core_spec.specs.Uses.{cells_of, is_all, is_single, width_at}
use Rattle.scc_core_static_laws.specs.Held.{Knows}
use Rattle.scc_core_view.specs.Programs.{cells_of as all_cells}
use Rattle.scc_core_view.specs.Terms.{Taken, taken_of}
use Rattle.scc_core_view.specs.Whole.{AreWholeCells, IsWhole}
use Rattle.scc_states.specs.Resets.{Given, assigns_in}
use Rattle.scc_states_kept.specs.Filled.{fills}

-- a location is one cell, and all of it is taken
abbrev pub FillsOne : Known → Cells → CoreLeft → Taken → Type 0
FillsOne known cs l t = fills known l (named_in known l) ≡ (is_single cs t.left && unwrap_or (option_map (λ n. is_all cs (width_at cs n) t.pick) (one_cell (cells_of cs t.left))) false)

-- each table of the core's names tells of an assignment whether it is to one whole cell; its value is whole
pub record IsWholePut (c : Core) (g : Given) : Type 0 where
  pub left : (known : Known) → Knows known c.cells [] → FillsOne known (all_cells c) g.0 (taken_of g.0)
  pub value : IsWhole c.cells g.1

pub record IsWholeThread (c : Core) (i : ℕ) (p : CoreProcess) : Type 0 where
  pub stands : slice_get c.processes i ≡ Some p
  pub is_thread : p.sort ≡ Thread
  pub cells : AreWholeCells c.cells
  pub tests : Each (IsWhole c.cells) (tests_in p.body)
  pub puts : Each (IsWholePut c) (assigns_in p.body)
