use Rattle.std.proofs.Common.{◌∙◌}
use Rattle.scc_core.specs.Known.{facts_in}
use Rattle.scc_core.specs.Statics.{static_of}
use Rattle.scc_core_static_laws.specs.Held.{facts_with}
use Rattle.scc_core_static_laws.proofs.Counted.{values_counted, parts_counted, picks_counted}
use Rattle.scc_core_static_laws.proofs.Known.{facts_agree}
use Rattle.scc_core_static_laws.proofs.Values.{values_same, parts_same, picks_same}
use Rattle.scc_core_static_laws.proofs.laws.static_values_with_counters_are_those_of_copies.Goals as goal

pub returns-clause-values : goal.returns-clause-values
unfolding static_of
returns-clause-values c = λ known cells ns e k w. values_same (facts_in known) (facts_with cells ns) (facts_agree known cells ns k) w ∙ values_counted cells ns w

pub returns-clause-parts : goal.returns-clause-parts
returns-clause-parts c = λ known cells ns ps k w. parts_same (facts_in known) (facts_with cells ns) (facts_agree known cells ns k) w ∙ parts_counted cells ns w

pub returns-clause-picks : goal.returns-clause-picks
returns-clause-picks c = λ known cells ns q k w. picks_same (facts_in known) (facts_with cells ns) (facts_agree known cells ns k) w ∙ picks_counted cells ns w

pub returns-clause-found : goal.returns-clause-found
returns-clause-found c = λ known cells ns first ps name k n. (facts_agree known cells ns k).place first ps name n
