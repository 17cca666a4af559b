use Rattle.scc_inline_process_laws.proofs.Known.{static_is}
use Rattle.scc_inline_laws.proofs.laws.a_static_value_holds.Goals as goal

pub returns : goal.returns
returns c home p constant i own moves names signals s fixed e w k d = static_is home p constant i own moves names signals s fixed e w k d
