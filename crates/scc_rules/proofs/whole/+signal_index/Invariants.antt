use Rattle.std.proofs.Common.{◌≡◌, drop}
use Rattle.scc_core_spec.specs.First.{first_of}
use Rattle.scc_core_spec.specs.Static.{Cells}
use Rattle.scc_rules.specs.Chosen.{AreLocated, chosen_place, uses_in}
use Rattle.scc_rules.proofs.whole.+signal_index.Given as goal

abbrev pub invariant-first_chosen_signal-loop-s : goal.invariant-first_chosen_signal-loop-s
invariant-first_chosen_signal-loop-s l =
    (cs : Cells) → AreLocated l.f cs (uses_in l.body) → first_of (chosen_place cs) (uses_in (drop l.s-index l.body)) ≡ first_of (chosen_place cs) (uses_in l.body)
