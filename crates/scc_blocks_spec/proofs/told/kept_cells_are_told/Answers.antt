use Rattle.scc_blocks_spec.proofs.Telling.{local_is_kept, local_is_not_kept}
use Rattle.scc_blocks_spec.proofs.told.kept_cells_are_told.Goals as goal

pub returns-clause-across : goal.returns-clause-across
returns-clause-across c = local_is_kept

pub returns-clause-local : goal.returns-clause-local
returns-clause-local c = local_is_not_kept
