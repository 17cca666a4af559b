use Rattle.std.proofs.Common.{length, ◌-◌, ◌≡◌, ◌<◌, ℕ, get_or}
use Rattle.scc_core_flow.proofs.set.clear_words.Given as goal

abbrev pub invariant-loop-i : goal.invariant-loop-i
invariant-loop-i l = (k : ℕ) → k < l.i → get_or l.words k 0 ≡ 0

abbrev pub decreases-loop-i : goal.decreases-loop-i
decreases-loop-i l = length l.initial.words - l.i
