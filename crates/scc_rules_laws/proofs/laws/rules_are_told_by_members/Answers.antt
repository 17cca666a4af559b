use Rattle.scc_rules_laws.proofs.Alike.{clocks_alike, feeds_alike, latches_alike, senses_alike, sharers_alike, writers_alike}
use Rattle.scc_rules_laws.proofs.laws.rules_are_told_by_members.Goals as goal

pub returns-clause-clocks : goal.returns-clause-clocks
returns-clause-clocks c = clocks_alike

pub returns-clause-writers : goal.returns-clause-writers
returns-clause-writers c = writers_alike

pub returns-clause-senses : goal.returns-clause-senses
returns-clause-senses c = senses_alike

pub returns-clause-latches : goal.returns-clause-latches
returns-clause-latches c = latches_alike

pub returns-clause-feeds : goal.returns-clause-feeds
returns-clause-feeds c = feeds_alike

pub returns-clause-shared : goal.returns-clause-shared
returns-clause-shared c = sharers_alike
