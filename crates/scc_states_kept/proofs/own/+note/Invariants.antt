use Rattle.std.proofs.Common.{ℕ, Bool, take}
use Rattle.std.specs.Prelude.{◌||◌}
use Rattle.scc_core_view.specs.Codes.{code_of}
use Rattle.scc_states_kept.specs.Noted.{Notes, TellsHere, owns_any}
use Rattle.scc_states_kept.proofs.own.+note.Given as goal

abbrev pub invariant-note_all-loop-s : goal.invariant-note_all-loop-s
invariant-note_all-loop-s l = (f : ℕ → Bool) → TellsHere l.known l.process (code_of l.body) → Notes l.fn.cells.keys f → Notes l.cells.keys (λ x. f x || owns_any l.known l.process (code_of (take l.s-index l.body)) x)
