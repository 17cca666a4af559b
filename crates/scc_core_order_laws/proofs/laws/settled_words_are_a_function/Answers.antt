use Rattle.scc_states_laws.specs.InTime.{bounds_of}
use Rattle.scc_core_laws.proofs.Resolved.{own-bounds, core, rules, does, threads, order, ordered}
use Rattle.scc_core_laws.proofs.Rules.{senses}
use Rattle.scc_core_order_laws.proofs.Function.{settled-same}
use Rattle.scc_core_order_laws.proofs.laws.settled_words_are_a_function.Goals as goal

pub returns : goal.returns
returns c = λ home p is r none s t g h tied tied' stored.
    settled-same home p (core home is p r none) (rules home is p r none) (bounds_of p) (does home is p r none (bounds_of p) (own-bounds p)) (threads home is p r none (bounds_of p) (own-bounds p)) (order home is p r none)
    (ordered home is p r none) (senses p none) s t g h tied tied' stored
