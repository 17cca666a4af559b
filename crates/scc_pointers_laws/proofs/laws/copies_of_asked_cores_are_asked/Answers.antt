use Rattle.scc_pointers_laws.proofs.Copies.{core_copies_asked}
use Rattle.scc_pointers_laws.proofs.laws.copies_of_asked_cores_are_asked.Goals as goal

pub returns : goal.returns
returns c = core_copies_asked
