use Rattle.scc_core_view.proofs.StaticTerms.{static_values}
use Rattle.scc_core_view.proofs.laws.static_values_are_those_of_terms.Goals as goal

pub returns : goal.returns
returns c = λ cells e h w. static_values cells h e w
