use Rattle.scc_states_kept.proofs.Owning.{kept_owned}
use Rattle.scc_states_kept.proofs.laws.kept_cells_are_owned.Goals as goal

pub returns : goal.returns
returns c = λ cs i p x. kept_owned cs x i p
