use Rattle.scc_lower_laws.proofs.Joins.{join}
use Rattle.scc_lower_laws.proofs.laws.concatenations_are_lowered.Goals as goal

pub returns : goal.returns
returns c = λ s width n m f p k e es o os d b h. join s width n m f p k e es o os d b h
