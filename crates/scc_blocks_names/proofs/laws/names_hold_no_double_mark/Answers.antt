use Rattle.scc_blocks_names.proofs.Named.{named_once}
use Rattle.scc_blocks_names.proofs.laws.names_hold_no_double_mark.Goals as goal

pub returns : goal.returns
returns c = λ names d n h a b e. named_once names d n h a b e
