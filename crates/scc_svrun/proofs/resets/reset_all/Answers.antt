use Rattle.std.proofs.Common.{◌≡◌, ◌<◌, ◌≤◌, ℕ, length, drop, arith, subst}
use Rattle.scc_svtree.specs.Variables.{width_at, word_at}
use Rattle.scc_svrun.proofs.Over.{runnable_at, reset_turn}
use Rattle.scc_svrun.proofs.resets.reset_all.Goals as goal

pub reset_block-requires-clause-block : goal.reset_block-requires-clause-block
reset_block-requires-clause-block c =
    (runnable_at (width_at c.args.m.now.vars) c.args.blocks.now c.loop-k.k c.index-blocks-k.result c.requires.blocks c.loop-k-test.true c.loop-k.invariant.within c.index-blocks-k.is).0

pub loop-k-preserved : goal.loop-k-preserved
loop-k-preserved c = record {
  within = let h : c.loop-k.k ≤ length c.args.blocks.now = c.loop-k.invariant.within in omega arith;
  words = reset_turn c.args.blocks.now c.loop-k.k c.index-blocks-k.result (word_at c.args.x.now) (word_at c.loop-k.y) (word_at c.reset_block.new.y) c.loop-k-test.true c.loop-k.invariant.within c.index-blocks-k.is c.loop-k.invariant.words c.reset_block.ensures.words;
  valuation = c.reset_block.ensures.valuation;
}
