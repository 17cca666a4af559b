use Rattle.scc_lower_spec.proofs.Pieces.{joined_same}
use Rattle.scc_lower_spec.proofs.laws.names_tell_their_parts.Goals as goal

pub returns : goal.returns
returns c = λ names d ps qs h k e. joined_same names d ps qs h k e
