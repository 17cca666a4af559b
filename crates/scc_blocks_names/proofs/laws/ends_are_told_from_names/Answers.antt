use Rattle.scc_blocks_names.proofs.Named.{ends_told}
use Rattle.scc_blocks_names.proofs.laws.ends_are_told_from_names.Goals as goal

pub returns : goal.returns
returns c = λ names u d a m n h k s t e. ends_told names u d a m n h k s t e
