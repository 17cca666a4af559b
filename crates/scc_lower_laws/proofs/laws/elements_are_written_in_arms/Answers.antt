use Rattle.scc_lower_laws.specs.Puts.{IsPut}
use Rattle.scc_lower_laws.proofs.Spread.{put-case, put-nothing}
use Rattle.scc_lower_laws.proofs.laws.elements_are_written_in_arms.Goals as goal

pub returns : goal.returns
returns c = λ s width m k e t v vs d ds first cs many p. put-case s width m (IsPut s width k e t) v vs d ds first cs (λ a b x h. put-nothing s width k e t a b x h) many p
