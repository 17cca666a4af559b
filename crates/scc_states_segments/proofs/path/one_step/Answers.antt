use Rattle.std.proofs.Common.{refl, ap, ◌∙◌, drop}
use Rattle.scc_states_segments.specs.Frames.{from, scene}
use Rattle.scc_states_segments.proofs.Scenes.{first_part, other_parts, into_block, into_loop}
use Rattle.scc_states_segments.proofs.path.one_step.Goals as goal

pub returns-in_ok-push-in-Block : goal.returns-in_ok-push-in-Block
returns-in_ok-push-in-Block c =
    ap (λ l. from l (scene c.args.around.now)) (first_part c.args.here.now c.part-item.result c.in-len1-up.len_at_least c.part-item.is)
    ∙ into_block c.part-item.result (drop 1 c.args.here.now) (scene c.args.around.now) c.in-Block.body c.as_slice.result.now c.in-Block.is c.as_slice.ensures.elements
    c.args.around.now c.push.new.self _ refl c.in_ok-push-in-Block.ensures.ok (other_parts c.args.here.now)

pub returns-in_ok-push-in-Loop : goal.returns-in_ok-push-in-Loop
returns-in_ok-push-in-Loop c =
    ap (λ l. from l (scene c.args.around.now)) (first_part c.args.here.now c.part-item.result c.in-len1-up.len_at_least c.part-item.is)
    ∙ into_loop c.part-item.result (drop 1 c.args.here.now) (scene c.args.around.now) c.in-Loop.body c.as_slice-in-Loop.result.now c.in-Loop.is c.as_slice-in-Loop.ensures.elements
    c.args.around.now c.push-in-Loop.new.self _ refl c.in_ok-push-in-Loop.ensures.ok
