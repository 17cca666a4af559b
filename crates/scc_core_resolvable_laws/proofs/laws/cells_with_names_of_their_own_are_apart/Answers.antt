use Rattle.scc_core_resolvable_laws.proofs.Told.{is-apart}
use Rattle.scc_core_resolvable_laws.proofs.laws.cells_with_names_of_their_own_are_apart.Goals as goal

pub returns : goal.returns
returns c = λ home is p named told i q at. is-apart home is p named told i q at
