use Rattle.scc_elab_laws.proofs.Holding.{regular}
use Rattle.scc_elab_laws.proofs.laws.reached_sites_are_regular.Goals as goal

pub returns : goal.returns
returns c = regular
