use Rattle.scc_semantics_laws.proofs.Order.{same-refl}
use Rattle.scc_semantics_laws.proofs.laws.a_design_means_what_it_means.Goals as goal

pub returns : goal.returns
returns c = same-refl
