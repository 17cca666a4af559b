use Rattle.scc_core_resolvable_laws.proofs.Clocked.{statements-left}
use Rattle.scc_core_resolvable_laws.proofs.laws.a_resolved_core_passes_but_for_its_statements.Goals as goal

pub returns : goal.returns
returns c = λ p r e named told sorted clocked. statements-left p r e named told sorted clocked
