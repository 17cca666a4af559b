use Rattle.scc_pointers_laws.proofs.Wholes.{core_asked}
use Rattle.scc_pointers_laws.proofs.laws.whole_cores_are_asked.Goals as goal

pub returns : goal.returns
returns c = λ m w. core_asked c.whole_indices_are_found.ensures m w
