use Rattle.std.proofs.Common.{◌≡◌, ℕ, Bool, take}
use Rattle.std.specs.Prelude.{◌||◌, nat_eq}
use Rattle.std.specs.List.{list_any}
use Rattle.scc_states_kept.specs.Slots.{Keeps}
use Rattle.scc_states_kept.proofs.slots.add_cells.Given as goal

abbrev pub invariant-loop-cell : goal.invariant-loop-cell
invariant-loop-cell l = (only f : ℕ → Bool) → Keeps only l.fn.own l.fn.live f → Keeps only l.fn.own l.live (λ x. list_any (nat_eq x) (take l.cell-index l.cells) || f x)
