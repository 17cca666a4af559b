use Rattle.std.proofs.Common.{ap, ◌∙◌, ◌++◌, ◌∷◌, []}
use Rattle.scc_states_segments.proofs.Scenes.{one_more}
use Rattle.scc_states_cut.proofs.cuts.inside.Goals as goal

pub returns : goal.returns
returns c = one_more c.args.around.now c.push.new.self _ (c.in_ok-push.ensures.ok ∙ ap (λ fs. fs ++ record { sort = c.args.sort; rest = c.args.rest } ∷ []) c.in_ok-inner.ensures)
