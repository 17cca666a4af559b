use Rattle.scc_elab_spec.proofs.Valued.{valued}
use Rattle.scc_elab_spec.proofs.laws.constructors_and_processes_have_the_same_values.Goals as goal

pub returns : goal.returns
returns c s regular = valued s regular
