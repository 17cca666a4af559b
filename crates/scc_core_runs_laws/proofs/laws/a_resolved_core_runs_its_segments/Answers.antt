use Rattle.scc_core_runs_laws.proofs.Done.{segments}
use Rattle.scc_core_runs_laws.proofs.laws.a_resolved_core_runs_its_segments.Goals as goal

pub returns : goal.returns
returns c = λ home p is r loops ends bounds enough. segments home is p r loops ends bounds enough
