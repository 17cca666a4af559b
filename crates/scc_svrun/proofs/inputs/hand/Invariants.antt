use Rattle.std.proofs.Common.{◌≡◌, ◌≤◌, length, drop}
use Rattle.scc_svtree.specs.Variables.{width_at, word_at}
use Rattle.scc_svrun.specs.Edged.{over, handed}
use Rattle.scc_svrun.specs.Valued.{IsValuation}
use Rattle.scc_svrun.proofs.inputs.hand.Given as goal

abbrev pub invariant-loop-k : goal.invariant-loop-k
invariant-loop-k l = record {
  within : l.k ≤ length l.vars;
  words : word_at l.y ≡ over (handed (drop l.k l.vars) (drop l.k l.words)) (word_at l.initial.y);
  valuation : IsValuation l.m.vars l.y;
}

abbrev pub decreases-loop-k : goal.decreases-loop-k
decreases-loop-k l = l.k
