use Rattle.std.proofs.Common.{refl}
use Rattle.scc_blocks_spec.proofs.Telling.{first_tells, four_is_first}
use Rattle.scc_blocks_spec.proofs.told.first_answers_are_told.Goals as goal

pub returns-clause-processes : goal.returns-clause-processes
returns-clause-processes c = first_tells

pub returns-clause-first : goal.returns-clause-first
returns-clause-first c = four_is_first

pub returns-clause-none : goal.returns-clause-none
returns-clause-none c = (refl, (refl, tt))
