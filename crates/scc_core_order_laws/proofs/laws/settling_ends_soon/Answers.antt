use Rattle.scc_core_laws.proofs.Resolved.{core, rules, does, threads, order, ordered}
use Rattle.scc_core_laws.proofs.Rules.{senses}
use Rattle.scc_core_order_laws.proofs.Resolved.{soon, kept}
use Rattle.scc_core_order_laws.proofs.Within.{ends-within}
use Rattle.scc_core_order_laws.proofs.laws.settling_ends_soon.Goals as goal

pub returns-clause-soon : goal.returns-clause-soon
returns-clause-soon c = soon

pub returns-clause-ends : goal.returns-clause-ends
returns-clause-ends c = λ home p is r none bounds keeps choose covers s reached.
    ends-within home p (core home is p r none) (rules home is p r none) bounds (does home is p r none bounds keeps) (threads home is p r none bounds keeps) (order home is p r none)
    (ordered home is p r none) (senses p none) (kept home p is r none) choose covers s reached
