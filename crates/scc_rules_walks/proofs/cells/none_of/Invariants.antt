use Rattle.std.proofs.Common.{◌≡◌, ℕ, false}
use Rattle.scc_rules_walks.specs.Cells.{has_flag}
use Rattle.scc_rules_walks.proofs.cells.none_of.Given as goal

abbrev pub invariant-loop : goal.invariant-loop
invariant-loop l = (n : ℕ) → has_flag l.set.items n ≡ false
