use Rattle.std.proofs.Common.{◌≡◌, ℕ, Bool, take}
use Rattle.std.specs.Prelude.{◌||◌}
use Rattle.std.specs.List.{list_any}
use Rattle.scc_core_spec.specs.Uses.{among}
use Rattle.scc_states_kept.specs.Rows.{cells_in}
use Rattle.scc_states_kept.specs.Slots.{Keeps}
use Rattle.scc_states_kept.proofs.slots.add_reads.Given as goal

abbrev pub invariant-loop-load : goal.invariant-loop-load
invariant-loop-load l = (only f : ℕ → Bool) → Keeps only l.fn.own l.fn.live f
    → Keeps only l.fn.own l.live (λ x. list_any (λ y. among x (cells_in l.fn.own.known y.left.now)) (take l.load-index l.loads) || f x)
