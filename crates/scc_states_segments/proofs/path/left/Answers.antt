use Rattle.std.proofs.Common.{sym, ◌∙◌, ◌-◌}
use Rattle.scc_states_segments.proofs.Scenes.{leaves_here, leaves_more, leaves_rest, leaves_end, leaves_again, one_less}
use Rattle.scc_states_segments.proofs.path.left.Goals as goal

pub returns-then-more-eq0 : goal.returns-then-more-eq0
returns-then-more-eq0 c = sym c.loop-frame.invariant ∙ leaves_here c.pop.new.self c.loop-frame.around c.in-Some.frame c.in-Some.ensures.last c.loop-frame.more c.in-Block.is c.if-more-eq0.true

pub loop-frame-preserved-in-Block : goal.loop-frame-preserved-in-Block
loop-frame-preserved-in-Block c =
    sym (leaves_more c.pop.new.self c.loop-frame.around c.in-Some.frame c.in-Some.ensures.last c.loop-frame.more (c.loop-frame.more - 1) c.in-Block.is (one_less c.loop-frame.more c.if-more-eq0.false))
    ∙ c.loop-frame.invariant

pub loop-frame-preserved-in-Rest : goal.loop-frame-preserved-in-Rest
loop-frame-preserved-in-Rest c = sym (leaves_rest c.pop.new.self c.loop-frame.around c.in-Some.frame c.in-Some.ensures.last c.loop-frame.more c.in-Rest.is) ∙ c.loop-frame.invariant

pub loop-frame-preserved-in-End : goal.loop-frame-preserved-in-End
loop-frame-preserved-in-End c = sym (leaves_end c.pop.new.self c.loop-frame.around c.in-Some.frame c.in-Some.ensures.last c.loop-frame.more c.in-End.is) ∙ c.loop-frame.invariant

pub loop-frame-preserved : goal.loop-frame-preserved
loop-frame-preserved c = sym (leaves_again c.pop.new.self c.loop-frame.around c.in-Some.frame c.in-Some.ensures.last c.loop-frame.more c.in-Again.is) ∙ c.loop-frame.invariant
