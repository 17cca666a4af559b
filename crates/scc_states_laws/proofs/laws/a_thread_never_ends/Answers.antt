use Rattle.scc_states_path_laws.proofs.Exits.{never_ends}
use Rattle.scc_states_laws.proofs.laws.a_thread_never_ends.Goals as goal

pub returns : goal.returns
returns c cs code e f h = never_ends cs code e f h
