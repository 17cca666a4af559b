use Rattle.scc_states_kept.proofs.Parts.{needed_two}
use Rattle.scc_states_kept.proofs.laws.what_is_needed_is_told_part_by_part.Goals as goal

pub returns : goal.returns
returns c = needed_two
