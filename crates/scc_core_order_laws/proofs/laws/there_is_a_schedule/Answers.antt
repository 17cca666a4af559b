use Rattle.scc_core_effect_laws.specs.Follows.{design_of}
use Rattle.scc_core_laws.proofs.Resolved.{core, rules, does, threads, order, ordered}
use Rattle.scc_core_laws.proofs.Rules.{senses}
use Rattle.scc_core_order_laws.proofs.Passing.{named-cover, all_methods, all-cover}
use Rattle.scc_core_order_laws.proofs.Exists.{exists}
use Rattle.scc_core_order_laws.proofs.Resolved.{kept}
use Rattle.scc_core_order_laws.proofs.laws.there_is_a_schedule.Goals as goal

pub returns-clause-all : goal.returns-clause-all
returns-clause-all c = named-cover

pub returns-clause-some : goal.returns-clause-some
returns-clause-some c = λ home p is r none bounds keeps s start xs fit.
    exists home p (core home is p r none) (rules home is p r none) bounds (does home is p r none bounds keeps) (threads home is p r none bounds keeps) (order home is p r none)
    (ordered home is p r none) (senses p none) (kept home p is r none) (λ r. all_methods (design_of home p)) (λ r. all-cover (design_of home p) r) s start xs fit
