use Rattle.scc_core_pass_laws.proofs.Whole.{same-resolved}
use Rattle.scc_core_pass_laws.proofs.laws.a_resolved_core_means_the_same.Goals as goal

pub returns : goal.returns
returns c = λ home is_home p new constant named able made keeps. same-resolved home is_home p new constant named able made keeps
