use Rattle.scc_lower_laws.proofs.Frames.{lowers-is}
use Rattle.scc_lower_laws.proofs.laws.lowered_expressions_give_their_values.Goals as goal

pub returns : goal.returns
returns c = λ s width from to e front o number small h. lowers-is s width from to e front o number small h
