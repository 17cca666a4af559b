-- What a walk over the live part of a body has seen.
use Rattle.std.specs.Prelude.{◌≡◌, ℕ, suc, ◌+◌, List, Bool, true, ◌||◌, slice_index_or}
use Rattle.scc_states_sum.specs.declared.sum.Seen.{Seen}
use Rattle.scc_states_sum.specs.Elements.{cut}
use Rattle.scc_states_sum.specs.Live.{Live}

-- Of each open block, by its depth from 0, the walk keeps whether some path leaves it: what was known before, and what is known
-- behind statements that stand so deep.
pub record Lives (depth : ℕ) (old new : List Bool) (seen : Seen) (l : Live) : Type 0 where
  pub elements : seen.elements ≡ cut l.elements
  pub ends : seen.ends ≡ l.ends
  pub leaves : (p k : ℕ) → p + suc k ≡ depth → slice_index_or new p true ≡ (slice_index_or old p true || l.leaves k)
