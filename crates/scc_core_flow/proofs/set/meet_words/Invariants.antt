use Rattle.std.proofs.Common.{length, ◌-◌, ◌≡◌, ◌&&◌, ◌<◌, ◌≤◌, ℕ, List, get_or}
use Rattle.scc_core_flow.specs.Sets.{has_bit}
use Rattle.scc_core_flow.proofs.set.meet_words.Given as goal

pub record Met (old now more : List ℕ) (i : ℕ) : Type 0 where
  pub size : length now ≡ length old
  pub below : (k j : ℕ) → k < i → has_bit (get_or now k 0) j ≡ (has_bit (get_or old k 0) j && has_bit (get_or more k 0) j)
  pub above : (k : ℕ) → i ≤ k → get_or now k 0 ≡ get_or old k 0

abbrev pub invariant-loop-i : goal.invariant-loop-i
invariant-loop-i l = Met l.fn.words l.words l.more l.i

abbrev pub decreases-loop-i : goal.decreases-loop-i
decreases-loop-i l = length l.initial.words - l.i
