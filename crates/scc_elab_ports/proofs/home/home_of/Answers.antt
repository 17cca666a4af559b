use Rattle.std.proofs.Common.{length, refl}
use Rattle.scc_elab_grown.specs.Grown.{grown_of}
use Rattle.scc_elab_ports.proofs.Homes.{home_ok}
use Rattle.scc_elab_ports.proofs.home.home_of.Goals as goal

pub returns : goal.returns
returns c = home_ok c.below.result (grown_of c.args.g.now).objects c.args.path.now (length c.args.path.now) refl c.below.ensures
