use Rattle.std.proofs.Common.{◌≡◌, ℕ, Bool, take}
use Rattle.std.specs.Prelude.{filter}
use Rattle.scc_states_kept.specs.Gathered.{AreAsked}
use Rattle.scc_states_kept.specs.Slots.{Keeps}
use Rattle.scc_states_kept.proofs.kept.those_in.Given as goal

abbrev pub invariant-loop-cell : goal.invariant-loop-cell
invariant-loop-cell l = (only f : ℕ → Bool) → Keeps only l.fn.own l.fn.set f → AreAsked only l.fn.own.cells.keys → l.kept ≡ filter f (take l.cell-index l.fn.own.cells.keys)
