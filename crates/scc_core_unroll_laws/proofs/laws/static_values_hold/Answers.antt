use Rattle.scc_core_unroll_laws.proofs.Knowing.{knows}
use Rattle.scc_core_unroll_laws.proofs.laws.static_values_hold.Goals as goal

pub returns : goal.returns
returns c = λ home h p constant i q named. knows home h p constant i q named
