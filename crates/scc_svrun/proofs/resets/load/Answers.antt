use Rattle.std.proofs.Common.{◌<◌, ◌≤◌, length, arith}
use Rattle.scc_svtree.specs.Variables.{width_at, word_at}
use Rattle.scc_svtree.specs.declared.module.SvLoad.{SvLoad}
use Rattle.scc_svrun.proofs.Over.{loadable_at, load_turn}
use Rattle.scc_svrun.proofs.resets.load.Goals as goal

none : SvLoad
none = record { target = record { 0 = 0 }; value = record { bits = 0 } }

pub put-requires-clause-width : goal.put-requires-clause-width
unfolding none
put-requires-clause-width c =
    let h : c.loop-k.k ≤ length c.args.loads.now = c.loop-k.invariant.within in
    (loadable_at (width_at c.args.m.now.vars) c.args.loads.now c.loop-k.k none c.requires.loads c.loop-k-test.true h).0

pub put-requires-clause-fits : goal.put-requires-clause-fits
unfolding none
put-requires-clause-fits c =
    (loadable_at (width_at c.args.m.now.vars) c.args.loads.now c.loop-k.k none c.requires.loads c.loop-k-test.true c.loop-k.invariant.within).1

pub loop-k-preserved : goal.loop-k-preserved
unfolding none
loop-k-preserved c = record {
  within = let h : c.loop-k.k ≤ length c.args.loads.now = c.loop-k.invariant.within in omega arith;
  words = load_turn (width_at c.args.m.now.vars) c.args.loads.now c.loop-k.k none (word_at c.args.y.now) (word_at c.loop-k.y) (word_at c.put.new.x) c.loop-k-test.true c.loop-k.invariant.within c.loop-k.invariant.words c.put.ensures.words;
  valuation = c.put.ensures.valuation;
}
