use Rattle.std.proofs.Common.{◌≡◌, ℕ, if◌then◌else◌, drop}
use Rattle.scc_core_spec.specs.Uses.{among}
use Rattle.scc_rules_walks.specs.Cells.{has_flag}
use Rattle.scc_rules.proofs.clock.put_back.Given as goal

abbrev pub invariant-loop-cell : goal.invariant-loop-cell
invariant-loop-cell l =
    (n : ℕ) → (if among n (drop l.cell-index l.cells) then has_flag l.first n else has_flag l.set.items n)
    ≡ (if among n l.cells then has_flag l.first n else has_flag l.initial.set.items n)
