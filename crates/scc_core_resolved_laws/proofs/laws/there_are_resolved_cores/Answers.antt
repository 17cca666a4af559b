use Rattle.std.proofs.Common.{refl}
use Rattle.scc_core_resolved_laws.proofs.Homes.{own-home}
use Rattle.scc_core_resolved_laws.proofs.laws.there_are_resolved_cores.Goals as goal

pub returns-clause-counting : goal.returns-clause-counting
returns-clause-counting c = refl

pub returns-clause-waiting : goal.returns-clause-waiting
returns-clause-waiting c = refl

pub returns-clause-outputs : goal.returns-clause-outputs
returns-clause-outputs c = refl

pub returns-clause-alike : goal.returns-clause-alike
returns-clause-alike c = refl

pub returns-clause-home : goal.returns-clause-home
returns-clause-home c = own-home
