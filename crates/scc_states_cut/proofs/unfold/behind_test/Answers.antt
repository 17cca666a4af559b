use Rattle.scc_states_segments.proofs.Scenes.{rest_more}
use Rattle.scc_states_cut.proofs.unfold.behind_test.Goals as goal

pub returns : goal.returns
returns c = rest_more c.args.around c.push.new.self _ c.in_ok-push.ensures.ok
