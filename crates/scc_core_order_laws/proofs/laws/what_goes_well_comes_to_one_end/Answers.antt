use Rattle.scc_core_order_laws.proofs.One.{one-shown}
use Rattle.scc_core_order_laws.proofs.laws.what_goes_well_comes_to_one_end.Goals as goal

pub returns : goal.returns
returns c = one-shown
