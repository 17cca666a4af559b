use Rattle.scc_svtree.proofs.Settling.{settles_once}
use Rattle.scc_svtree.proofs.laws.there_is_one_settled_valuation.Goals as goal

pub returns : goal.returns
returns c = λ width cs h given. settles_once width cs h given
