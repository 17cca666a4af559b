use Rattle.scc_tokens_laws.proofs.Decided.{only_joins, only_stops}
use Rattle.scc_tokens_laws.proofs.Deriving.{joins_whole}
use Rattle.scc_tokens_laws.proofs.Faulting.{stops_first}
use Rattle.scc_tokens_laws.proofs.laws.parts_are_joined.Goals as goal

pub returns-clause-joins : goal.returns-clause-joins
returns-clause-joins c = λ shelf before roots names sources j. (joins_whole shelf before roots names sources j, only_joins shelf before roots names sources j)

pub returns-clause-stops : goal.returns-clause-stops
returns-clause-stops c = λ shelf before roots names sources h. (stops_first shelf before roots names sources h, only_stops shelf before roots names sources h)
