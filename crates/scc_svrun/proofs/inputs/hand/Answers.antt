use Rattle.std.proofs.Common.{◌≡◌, ◌<◌, ◌≤◌, length, arith}
use Rattle.scc_bits_kinds.specs.declared.kind.Word.{Word}
use Rattle.scc_svtree.specs.declared.expr.VarId.{VarId}
use Rattle.scc_svtree.specs.Variables.{width_at, word_at}
use Rattle.scc_svrun.proofs.Over.{handed_at, hand_turn}
use Rattle.scc_svrun.proofs.inputs.hand.Goals as goal

no_var : VarId
no_var = record { 0 = 0 }

no_word : Word
no_word = record { bits = 0 }

pub put-requires-clause-width : goal.put-requires-clause-width
unfolding no_var no_word
put-requires-clause-width c =
    let h : c.loop-k.k ≤ length c.args.vars.now = c.loop-k.invariant.within in
    let e : length c.args.words.now ≡ length c.args.vars.now = c.requires.lengths in
    (handed_at (width_at c.args.m.now.vars) c.args.vars.now c.args.words.now c.loop-k.k no_var no_word c.requires.words c.loop-k-test.true h (omega arith)).0

pub put-requires-clause-fits : goal.put-requires-clause-fits
unfolding no_var no_word
put-requires-clause-fits c =
    let h : c.loop-k.k ≤ length c.args.vars.now = c.loop-k.invariant.within in
    let e : length c.args.words.now ≡ length c.args.vars.now = c.requires.lengths in
    (handed_at (width_at c.args.m.now.vars) c.args.vars.now c.args.words.now c.loop-k.k no_var no_word c.requires.words c.loop-k-test.true h (omega arith)).1

pub loop-k-preserved : goal.loop-k-preserved
unfolding no_var no_word
loop-k-preserved c =
    let h : c.loop-k.k ≤ length c.args.vars.now = c.loop-k.invariant.within in
    let e : length c.args.words.now ≡ length c.args.vars.now = c.requires.lengths in
    record {
      within = omega arith;
      words = hand_turn c.args.vars.now c.args.words.now c.loop-k.k no_var no_word (word_at c.args.y.now) (word_at c.loop-k.y) (word_at c.put.new.x) c.loop-k-test.true h (omega arith) c.loop-k.invariant.words c.put.ensures.words;
      valuation = c.put.ensures.valuation;
    }
