use Rattle.scc_elab_growth_laws.proofs.Leaving.{left-is}
use Rattle.scc_elab_laws.proofs.Housing.{stand-apart}
use Rattle.scc_elab_laws.proofs.laws.objects_stand_apart.Goals as goal

pub returns : goal.returns
returns c many p d e whole = stand-apart many p d (left-is many p d e) whole
