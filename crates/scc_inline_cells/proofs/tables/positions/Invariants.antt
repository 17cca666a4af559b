use Rattle.std.proofs.Common.{◌≡◌, ◌≤◌, ℕ, nat_eq, drop, length}
use Rattle.indexmap.specs.IndexMap.{get}
use Rattle.scc_inline_cells.specs.Tables.{first_from}
use Rattle.scc_inline_cells.proofs.tables.positions.Given as goal

abbrev pub invariant-loop-k : goal.invariant-loop-k
invariant-loop-k l = record {
  within : l.k ≤ length l.keys;
  found : (n : ℕ) → get nat_eq l.found n ≡ first_from n l.k (drop l.k l.keys);
}

abbrev pub decreases-loop-k : goal.decreases-loop-k
decreases-loop-k l = l.k
