use Rattle.std.proofs.Common.{◌≡◌, ℕ, ◌||◌, drop}
use Rattle.scc_core_spec.specs.Uses.{among}
use Rattle.scc_rules_walks.specs.Cells.{has_flag}
use Rattle.scc_rules.specs.Marks.{clocks_in}
use Rattle.scc_rules.proofs.clock.add_clocks.Given as goal

abbrev pub invariant-loop-p : goal.invariant-loop-p
invariant-loop-p l = (n : ℕ) → (among n (clocks_in (drop l.p-index l.processes)) || has_flag l.set.items n) ≡ (among n (clocks_in l.processes) || has_flag l.initial.set.items n)
