use Rattle.std.proofs.Common.{sym, ap, ◌∙◌, [], ◌∷◌}
use Rattle.scc_core_view.specs.Codes.{code_of}
use Rattle.scc_states_segments.specs.Reach.{reaches}
use Rattle.scc_states_segments.proofs.Adds.{opens_reaches}
use Rattle.scc_states_segments.proofs.opening.opens.Goals as goal

pub returns : goal.returns
returns c = c.is_open.ensures ∙ ap (reaches 0) c.reach_in.ensures ∙ sym (opens_reaches 0 (code_of (c.args.s.now ∷ [])))
