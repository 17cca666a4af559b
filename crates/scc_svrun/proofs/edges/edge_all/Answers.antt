use Rattle.std.proofs.Common.{◌≡◌, ◌<◌, ◌≤◌, ℕ, length, drop, arith, subst}
use Rattle.scc_svtree.specs.Variables.{width_at, word_at}
use Rattle.scc_svtree.specs.Steps.{after_edges}
use Rattle.scc_svrun.specs.Edged.{ticking}
use Rattle.scc_svrun.proofs.Over.{runnable_at, edge_turn}
use Rattle.scc_svrun.proofs.edges.edge_all.Goals as goal

pub edge_block-requires-clause-block : goal.edge_block-requires-clause-block
edge_block-requires-clause-block c =
    (runnable_at (width_at c.args.m.now.vars) c.args.blocks.now c.loop-k.k c.index-blocks-k.result c.requires.blocks c.loop-k-test.true c.loop-k.invariant.within c.index-blocks-k.is).0

pub loop-k-preserved : goal.loop-k-preserved
loop-k-preserved c = record {
  within = let h : c.loop-k.k ≤ length c.args.blocks.now = c.loop-k.invariant.within in omega arith;
  words = edge_turn (width_at c.args.m.now.vars) (ticking c.args.clocks.all c.args.clocks.list.now) c.args.blocks.now c.loop-k.k c.index-blocks-k.result (word_at c.args.x.now) (word_at c.loop-k.y) (word_at c.edge_block.new.y) c.loop-k-test.true c.loop-k.invariant.within c.index-blocks-k.is c.loop-k.invariant.words c.edge_block.ensures.words;
  valuation = c.edge_block.ensures.valuation;
}

pub returns-clause-words : goal.returns-clause-words
returns-clause-words c =
    let z : c.loop-k.k ≡ 0 = omega (arith, c.loop-k-test.false) in
    let P : ℕ → Type 0 = λ n. word_at c.loop-k.y ≡ after_edges (width_at c.args.m.now.vars) (ticking c.args.clocks.all c.args.clocks.list.now) (drop n c.args.blocks.now) (word_at c.args.x.now) in
    subst P z c.loop-k.invariant.words
