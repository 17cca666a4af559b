use Rattle.scc_core_order_laws.proofs.Resolved.{in-any-order}
use Rattle.scc_core_order_laws.proofs.laws.any_order_shows_the_same.Goals as goal

pub returns : goal.returns
returns c = in-any-order
