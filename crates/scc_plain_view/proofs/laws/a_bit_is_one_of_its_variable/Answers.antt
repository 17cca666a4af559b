use Rattle.scc_plain_view.proofs.Worked.{bit_is}
use Rattle.scc_plain_view.proofs.laws.a_bit_is_one_of_its_variable.Goals as goal

pub returns : goal.returns
returns c = bit_is
