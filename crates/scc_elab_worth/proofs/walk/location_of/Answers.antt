use Rattle.scc_elab_worth.specs.Sites.{around, spot_of}
use Rattle.scc_elab_worth.proofs.Trees.{spot_is}
use Rattle.scc_elab_worth.proofs.walk.location_of.Goals as goal

pub returns : goal.returns
returns c = spot_is (around c.args.s.now) spot_of c.find.result c.args.left.now c.args.soft c.args.follow c.find.ensures
