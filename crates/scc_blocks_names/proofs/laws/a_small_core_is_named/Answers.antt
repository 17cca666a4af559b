use Rattle.scc_blocks_names.proofs.Small.{small_named}
use Rattle.scc_blocks_names.proofs.laws.a_small_core_is_named.Goals as goal

pub returns : goal.returns
returns c = small_named
