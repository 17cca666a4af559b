use Rattle.scc_elab_worth.specs.Sites.{around}
use Rattle.scc_elab_worth.proofs.Trees.{worth_is}
use Rattle.scc_elab_worth.proofs.walk.value_of.Goals as goal

pub returns : goal.returns
returns c = worth_is (around c.args.s.now) c.value.result c.args.e.now c.value.ensures
