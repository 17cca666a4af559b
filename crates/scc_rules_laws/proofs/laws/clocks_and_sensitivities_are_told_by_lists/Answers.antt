use Rattle.scc_rules_laws.proofs.Sensed.{clocks_told, senses_told}
use Rattle.scc_rules_laws.proofs.laws.clocks_and_sensitivities_are_told_by_lists.Goals as goal

pub returns-clause-clocks : goal.returns-clause-clocks
returns-clause-clocks c = clocks_told

pub returns-clause-senses : goal.returns-clause-senses
returns-clause-senses c = senses_told
