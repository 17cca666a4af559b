use Rattle.scc_pointers_laws.proofs.WholeCounted.{counted_core_asked}
use Rattle.scc_pointers_laws.proofs.laws.whole_cores_are_asked_with_counters.Goals as goal

pub returns : goal.returns
returns c = λ m w. counted_core_asked c.whole_indices_are_found.ensures m w
