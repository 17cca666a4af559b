use Rattle.std.proofs.Common.{◌≡◌, ℕ, not, ◌&&◌, drop}
use Rattle.scc_core_spec.specs.Uses.{among}
use Rattle.scc_rules_walks.specs.Cells.{has_flag}
use Rattle.scc_rules.proofs.clock.take_out.Given as goal

abbrev pub invariant-loop-cell : goal.invariant-loop-cell
invariant-loop-cell l = (n : ℕ) → (not (among n (drop l.cell-index l.cells)) && has_flag l.set.items n) ≡ (not (among n l.cells) && has_flag l.initial.set.items n)
