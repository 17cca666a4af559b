use Rattle.scc_elab_spec.proofs.Agreed.{agrees}
use Rattle.scc_elab_spec.proofs.laws.constructors_and_processes_agree.Goals as goal

pub returns : goal.returns
returns c make s code = agrees make s code
