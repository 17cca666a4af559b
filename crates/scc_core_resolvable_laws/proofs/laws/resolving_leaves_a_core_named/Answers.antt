use Rattle.scc_core_resolvable_laws.proofs.Pointerless.{named-too}
use Rattle.scc_core_resolvable_laws.proofs.laws.resolving_leaves_a_core_named.Goals as goal

pub returns : goal.returns
returns c = λ p r e named. named-too p r e named
