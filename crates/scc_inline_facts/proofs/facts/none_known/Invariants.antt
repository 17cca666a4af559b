use Rattle.std.proofs.Common.{◌≡◌, ℕ, Some, slice_get}
use Rattle.scc_inline_facts.specs.declared.facts.Facts.{Facts}
use Rattle.scc_inline_facts.proofs.facts.none_known.Given as goal

abbrev pub invariant-loop : goal.invariant-loop
invariant-loop l = (n : ℕ) (x : Facts) → slice_get l.known.items n ≡ Some (Some x) → ⊥
