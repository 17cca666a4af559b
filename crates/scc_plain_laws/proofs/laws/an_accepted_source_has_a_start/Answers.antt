use Rattle.scc_plain_laws.proofs.Started.{accepted-starts}
use Rattle.scc_plain_laws.proofs.laws.an_accepted_source_has_a_start.Goals as goal

pub returns : goal.returns
returns c = accepted-starts
