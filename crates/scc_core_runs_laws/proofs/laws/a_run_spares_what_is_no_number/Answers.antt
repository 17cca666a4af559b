use Rattle.scc_core_runs_laws.proofs.Spared.{run-spares}
use Rattle.scc_core_runs_laws.proofs.laws.a_run_spares_what_is_no_number.Goals as goal

pub returns : goal.returns
returns c = λ places lead functions signals n f h plain. run-spares places lead functions signals n f h plain
