use Rattle.std.proofs.Common.{sym, ap, ◌∙◌}
use Rattle.scc_states_segments.proofs.Scenes.{rest_next, block_next, end_next, again_next}
use Rattle.scc_states_segments.proofs.path.behind_list.Goals as goal

pub returns-in-Rest : goal.returns-in-Rest
returns-in-Rest c = rest_next c.pop.new.self c.args.around.now c.in-Some.frame c.in-Some.ensures.last c.in-Rest.is

pub returns-in-Block : goal.returns-in-Block
returns-in-Block c = block_next c.pop.new.self c.args.around.now c.in-Some.frame c.in-Some.ensures.last c.in-Block.is

pub returns-in-End : goal.returns-in-End
returns-in-End c = end_next c.pop.new.self c.args.around.now c.in-Some.frame c.in-Some.ensures.last c.in-End.is

pub returns-in_ok-push-in-Again : goal.returns-in_ok-push-in-Again
returns-in_ok-push-in-Again c = again_next c.pop.new.self c.args.around.now c.in-Some.frame c.in-Some.ensures.last c.in-Again.is c.push.new.self c.in_ok-push-in-Again.ensures.ok
