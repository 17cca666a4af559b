use Rattle.scc_core_laws.proofs.Orders.{has-order}
use Rattle.scc_core_laws.proofs.laws.methods_have_an_order.Goals as goal

pub returns : goal.returns
returns c = λ p r none. has-order p none r
