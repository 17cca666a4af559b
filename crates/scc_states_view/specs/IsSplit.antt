-- What a split has to be: the thread of that number, cut. This project's own.
use Rattle.std.specs.Prelude.{◌≡◌, ℕ, Some, slice_get}
use Rattle.scc_states.specs.declared.types.Split.{Split}
use Rattle.scc_core_spec.specs.Program.{Program, Process}
use Rattle.scc_blocks_spec.specs.Passed.{thread_of}
use Rattle.scc_states_view.specs.Segments.{split_thread}

-- The waits, the reset segment and the segments are those of the live code with its waits numbered in text order; the kept cells are those
-- that live across a wait, ascending (`thread_of`).
pub record IsSplit (p : Program) (i : ℕ) (s : Split) : Type 0 where
  pub process : Process
  pub stands : slice_get p.processes i ≡ Some process
  pub same : split_thread s ≡ thread_of p.cells i process
