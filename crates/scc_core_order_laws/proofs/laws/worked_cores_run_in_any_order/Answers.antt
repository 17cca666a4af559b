use Rattle.std.proofs.Common.{refl}
use Rattle.scc_core_spec.specs.WorkedRun.{counting, home}
use Rattle.scc_core_resolved_laws.proofs.Homes.{own-home}
use Rattle.scc_core_order_laws.specs.Worked.{chained}
use Rattle.scc_core_order_laws.proofs.Resolved.{in-any-order, soon}
use Rattle.scc_core_order_laws.proofs.laws.worked_cores_run_in_any_order.Goals as goal

pub returns-clause-counting : goal.returns-clause-counting
returns-clause-counting c = (in-any-order home counting own-home refl refl, soon home counting own-home refl refl)

pub returns-clause-chained : goal.returns-clause-chained
returns-clause-chained c = (in-any-order home chained own-home refl refl, soon home chained own-home refl refl)
