use Rattle.scc_semantics_laws.proofs.Orders.{any-order-too}
use Rattle.scc_semantics_laws.proofs.Soon.{ends-too}
use Rattle.scc_semantics_laws.proofs.laws.what_means_the_same_runs_in_any_order.Goals as goal

pub returns-clause-shows : goal.returns-clause-shows
returns-clause-shows c = any-order-too

pub returns-clause-ends : goal.returns-clause-ends
returns-clause-ends c = ends-too
