use Rattle.std.proofs.Common.{sym, ◌∙◌}
use Rattle.scc_svtree.specs.Variables.{word_at}
use Rattle.scc_svrun.proofs.Over.{reset_acts}
use Rattle.scc_svrun.proofs.resets.reset_block.Goals as goal

pub returns-then-is_active-clause-words : goal.returns-then-is_active-clause-words
returns-then-is_active-clause-words c =
    reset_acts c.args.b.now c.in-Edge.rising c.in-Edge.clock c.in-Edge.reset c.in-Edge.sets (word_at c.args.x.now) (word_at c.args.y.now) (word_at c.load.new.y)
    c.in-Some.r c.as_slice.result.now c.in-Edge.is c.in-Some.is (sym c.is_active.ensures ∙ c.if-is_active.true) c.as_slice.ensures.elements c.load.ensures.words
