use Rattle.scc_lower.proofs.Apart.{same_name}
use Rattle.scc_lower.proofs.laws.cells_have_texts_of_their_own.Goals as goal

pub returns : goal.returns
returns c = λ names d m n h k t e. same_name names d m n h k t e
