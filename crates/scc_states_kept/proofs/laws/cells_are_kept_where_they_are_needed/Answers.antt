use Rattle.scc_states_kept.proofs.Backward.{kept_needed}
use Rattle.scc_states_kept.proofs.laws.cells_are_kept_where_they_are_needed.Goals as goal

pub returns : goal.returns
returns c = λ cs i p x. kept_needed cs x i p
