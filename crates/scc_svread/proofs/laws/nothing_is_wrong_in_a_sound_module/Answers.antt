use Rattle.scc_svread.proofs.Linked.{nothing_wrong}
use Rattle.scc_svread.proofs.laws.nothing_is_wrong_in_a_sound_module.Goals as goal

pub returns : goal.returns
returns c = nothing_wrong
