use Rattle.std.proofs.Common.{◌≡◌, ◌≤◌, length, drop}
use Rattle.scc_svtree.specs.Steps.{after_resets}
use Rattle.scc_svtree.specs.Variables.{width_at, word_at}
use Rattle.scc_svrun.specs.Valued.{IsValuation}
use Rattle.scc_svrun.proofs.resets.reset_all.Given as goal

abbrev pub invariant-loop-k : goal.invariant-loop-k
invariant-loop-k l = record {
  within : l.k ≤ length l.blocks;
  words : word_at l.y ≡ after_resets (drop l.k l.blocks) (word_at l.x);
  valuation : IsValuation l.m.vars l.y;
}

abbrev pub decreases-loop-k : goal.decreases-loop-k
decreases-loop-k l = l.k
