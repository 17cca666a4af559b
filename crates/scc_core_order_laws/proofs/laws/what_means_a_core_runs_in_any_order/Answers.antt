use Rattle.scc_semantics_laws.proofs.Orders.{any-order-too}
use Rattle.scc_semantics_laws.proofs.Soon.{ends-too}
use Rattle.scc_blocks_spec.specs.Names.{is_kept_at}
use Rattle.scc_core_effect_laws.specs.Follows.{design_of}
use Rattle.scc_core_resolved_laws.proofs.Inputs.{is-steady}
use Rattle.scc_core_order_laws.proofs.Resolved.{in-any-order, soon}
use Rattle.scc_core_order_laws.proofs.laws.what_means_a_core_runs_in_any_order.Goals as goal

pub returns : goal.returns
returns c = λ home p is r none k d same. (
  any-order-too k d (design_of home p) same (is-steady home is p r) (is_kept_at home p) (in-any-order home p is r none),
  ends-too k d (design_of home p) same (is-steady home is p r) (soon home p is r none),
)
