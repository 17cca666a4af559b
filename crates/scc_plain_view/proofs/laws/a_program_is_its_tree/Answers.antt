use Rattle.scc_plain_view.proofs.Worked.{program_is}
use Rattle.scc_plain_view.proofs.laws.a_program_is_its_tree.Goals as goal

pub returns : goal.returns
returns c = program_is
