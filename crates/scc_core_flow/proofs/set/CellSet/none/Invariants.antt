use Rattle.std.proofs.Common.{◌≡◌, ℕ, get_or}
use Rattle.scc_core_flow.proofs.set.CellSet.none.Given as goal

abbrev pub invariant-loop : goal.invariant-loop
invariant-loop l = (k : ℕ) → get_or l.words.items k 0 ≡ 0
