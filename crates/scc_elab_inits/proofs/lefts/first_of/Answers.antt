use Rattle.std.proofs.Common.{ap, ◌∙◌, map}
use Rattle.scc_elab_inits.specs.Lefts as spec
use Rattle.scc_elab_inits.proofs.Rows.{slice_is}
use Rattle.scc_elab_inits.proofs.lefts.first_of.Goals as goal

pub returns-in-len1-up : goal.returns-in-len1-up
returns-in-len1-up c = λ t f. c.own_member.ensures t f ∙ ap (λ z. spec.first_of (map (spec.part t f) z)) (slice_is c.args.parts.now c.part-item.result c.in-len1-up.len_at_least c.part-item.is)
