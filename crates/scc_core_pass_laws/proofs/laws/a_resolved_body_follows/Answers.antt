use Rattle.scc_core_pass_laws.proofs.Still.{run-follows}
use Rattle.scc_core_pass_laws.proofs.laws.a_resolved_body_follows.Goals as goal

pub returns : goal.returns
returns c = λ home h p constant i q named apart at signals start n local f g a m known stayed keep. run-follows home p constant i q h named apart signals start at n local f g a m known stayed keep
