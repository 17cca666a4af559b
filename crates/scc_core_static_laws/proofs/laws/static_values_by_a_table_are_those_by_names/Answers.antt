use Rattle.std.proofs.Common.{[]}
use Rattle.scc_core.specs.Known.{facts_in}
use Rattle.scc_core.specs.Statics.{facts_of, static_of}
use Rattle.scc_core_static_laws.proofs.Known.{facts_agree}
use Rattle.scc_core_static_laws.proofs.Values.{values_same, lefts_same, parts_same, picks_same}
use Rattle.scc_core_static_laws.proofs.laws.static_values_by_a_table_are_those_by_names.Goals as goal

pub returns-clause-values : goal.returns-clause-values
unfolding static_of
returns-clause-values c = λ known cells e k w. values_same (facts_in known) (facts_of cells) (facts_agree known cells [] k) w

pub returns-clause-lefts : goal.returns-clause-lefts
returns-clause-lefts c = λ known cells j k l h w. lefts_same (facts_in known) (facts_of cells) (facts_agree known cells [] h) w k

pub returns-clause-parts : goal.returns-clause-parts
returns-clause-parts c = λ known cells ps k w. parts_same (facts_in known) (facts_of cells) (facts_agree known cells [] k) w

pub returns-clause-picks : goal.returns-clause-picks
returns-clause-picks c = λ known cells q k w. picks_same (facts_in known) (facts_of cells) (facts_agree known cells [] k) w

pub returns-clause-found : goal.returns-clause-found
returns-clause-found c = λ known cells first ps name k n. (facts_agree known cells [] k).place first ps name n
