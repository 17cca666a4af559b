use Rattle.scc_blocks_spec.proofs.Telling.{first_loop}
use Rattle.scc_blocks_spec.proofs.told.cycles_are_told.Goals as goal

pub returns-clause-first : goal.returns-clause-first
returns-clause-first c = first_loop
