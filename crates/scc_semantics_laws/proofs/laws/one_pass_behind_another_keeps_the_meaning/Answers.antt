use Rattle.scc_semantics_laws.proofs.Order.{same-then}
use Rattle.scc_semantics_laws.proofs.laws.one_pass_behind_another_keeps_the_meaning.Goals as goal

pub returns : goal.returns
returns c = same-then
