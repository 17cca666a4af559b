use Rattle.scc_lower_laws.proofs.Loads.{known}
use Rattle.scc_lower_laws.proofs.laws.what_is_known_is_a_number.Goals as goal

pub returns : goal.returns
returns c = λ s width n e w h. known s width n e w h
