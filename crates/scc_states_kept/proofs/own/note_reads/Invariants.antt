use Rattle.std.proofs.Common.{ℕ, Bool, false, take}
use Rattle.std.specs.Prelude.{◌||◌, ◌&&◌}
use Rattle.std.specs.List.{list_any}
use Rattle.scc_core_spec.specs.Uses.{among}
use Rattle.scc_states_kept.specs.Noted.{Notes, owns_at}
use Rattle.scc_states_kept.specs.Rows.{cells_in}
use Rattle.scc_states_kept.proofs.own.note_reads.Given as goal

abbrev pub invariant-loop-load : goal.invariant-loop-load
invariant-loop-load l = (f : ℕ → Bool) → Notes l.fn.cells.keys f
    → Notes l.cells.keys (λ x. f x || (owns_at l.known l.process false x && list_any (λ y. among x (cells_in l.known y.left.now)) (take l.load-index l.loads)))
