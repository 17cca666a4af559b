use Rattle.std.proofs.Common.{ℕ, Bool, take}
use Rattle.std.specs.Prelude.{◌||◌}
use Rattle.std.specs.List.{list_any}
use Rattle.scc_core_spec.specs.Static.{Cells}
use Rattle.scc_states_kept.specs.Gathered.{TellsAll, before_all, segments_of}
use Rattle.scc_states_kept.specs.Slots.{Keeps}
use Rattle.scc_states_kept.specs.Walks.{Counts}
use Rattle.scc_states_kept.proofs.kept.join_segments.Given as goal

abbrev pub invariant-loop-list : goal.invariant-loop-list
invariant-loop-list l = (cs : Cells) (only f : ℕ → Bool) (waits : Counts) → TellsAll l.fn.own.known cs only (segments_of waits l.lists) → Keeps only l.fn.own l.fn.all f
    → Keeps only l.fn.own l.all (λ x. list_any (λ y. before_all cs waits y x) (take l.list-index l.lists) || f x)
