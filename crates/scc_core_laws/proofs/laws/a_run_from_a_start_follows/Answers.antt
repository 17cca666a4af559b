use Rattle.scc_core_laws.proofs.Resolved.{run-from}
use Rattle.scc_core_laws.proofs.laws.a_run_from_a_start_follows.Goals as goal

pub returns : goal.returns
returns c = λ home p is r none bounds keeps s start xs fit. run-from home is p r none bounds keeps s start xs fit
