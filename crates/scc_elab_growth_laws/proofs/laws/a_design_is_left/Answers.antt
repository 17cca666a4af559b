use Rattle.scc_elab_growth_laws.proofs.Leaving.{left-is}
use Rattle.scc_elab_growth_laws.proofs.laws.a_design_is_left.Goals as goal

pub returns : goal.returns
returns c many p d e = left-is many p d e
