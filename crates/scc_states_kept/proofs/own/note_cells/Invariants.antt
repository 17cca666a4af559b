use Rattle.std.proofs.Common.{ℕ, Bool, take}
use Rattle.std.specs.Prelude.{◌||◌, ◌&&◌}
use Rattle.scc_core_spec.specs.Uses.{among}
use Rattle.scc_states_kept.specs.Noted.{Notes, owns_at}
use Rattle.scc_states_kept.proofs.own.note_cells.Given as goal

abbrev pub invariant-loop-cell : goal.invariant-loop-cell
invariant-loop-cell l = (f : ℕ → Bool) → Notes l.fn.cells.keys f → Notes l.cells.keys (λ x. f x || (owns_at l.known l.process l.is_write x && among x (take l.cell-index l.list)))
