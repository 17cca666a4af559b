use Rattle.std.specs.Prelude.{[]}
use Rattle.scc_core_spec.specs.Feeding.{done}
use Rattle.scc_core_spec.proofs.laws.no_methods_are_ordered.Goals as goal

pub returns : goal.returns
returns c = done [] (λ i h. h)
