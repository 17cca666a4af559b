use Rattle.scc_plain_laws.proofs.Started.{any-home}
use Rattle.scc_plain_laws.proofs.laws.constants_are_those_of_any_home.Goals as goal

pub returns : goal.returns
returns c = any-home
