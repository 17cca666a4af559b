use Rattle.scc_elab_inits.proofs.Trees.{first_is}
use Rattle.scc_elab_inits.proofs.lefts.first_member.Goals as goal

pub returns : goal.returns
returns c = first_is c.args.left.now c.first_seen.result (λ t f. c.first_seen.ensures t f)
