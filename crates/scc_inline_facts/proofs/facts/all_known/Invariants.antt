use Rattle.std.proofs.Common.{◌≡◌, ◌<◌, ℕ, Some, None, slice_get}
use Rattle.scc_inline_facts.proofs.facts.all_known.Given as goal

abbrev pub invariant-loop-facts : goal.invariant-loop-facts
invariant-loop-facts l = (n : ℕ) → n < l.facts-index → slice_get l.known n ≡ Some None → ⊥
