use Rattle.scc_states_path_laws.proofs.Appended.{cut-append, cuts-append}
use Rattle.scc_states_laws.proofs.laws.lists_are_cut_one_behind_another.Goals as goal

pub returns-clause-segment : goal.returns-clause-segment
returns-clause-segment c a b n next outer = cut-append a b n next outer

pub returns-clause-segments : goal.returns-clause-segments
returns-clause-segments c a b n next outer = cuts-append a b n next outer
