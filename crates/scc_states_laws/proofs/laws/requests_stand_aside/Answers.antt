use Rattle.scc_states_path_laws.proofs.Aside.{runs_aside}
use Rattle.scc_states_laws.proofs.laws.requests_stand_aside.Goals as goal

pub returns : goal.returns
returns c rs places functions signals n f h = runs_aside rs places functions signals n f h
