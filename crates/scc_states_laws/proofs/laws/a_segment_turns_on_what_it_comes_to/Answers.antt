use Rattle.scc_states_path_laws.proofs.Alone.{segment_same}
use Rattle.scc_states_path_laws.proofs.Codes.{must_wait}
use Rattle.scc_core_spec.specs.Live.{live}
use Rattle.scc_states_laws.proofs.laws.a_segment_turns_on_what_it_comes_to.Goals as goal

pub returns : goal.returns
returns c cs code n s t outer more quiet ends leaves = segment_same cs code n s t outer more (must_wait (live cs code) quiet) ends leaves
