use Rattle.scc_svtree.proofs.Combs.{sound_settles}
use Rattle.scc_svtree.proofs.laws.a_sound_module_settles_once.Goals as goal

pub returns : goal.returns
returns c = λ many m s given. sound_settles many m s given
