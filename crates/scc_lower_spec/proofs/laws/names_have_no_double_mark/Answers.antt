use Rattle.scc_lower_spec.proofs.Pieces.{no_double}
use Rattle.scc_lower_spec.proofs.laws.names_have_no_double_mark.Goals as goal

pub returns : goal.returns
returns c = λ names ps h a b e. no_double names ps h a b e
