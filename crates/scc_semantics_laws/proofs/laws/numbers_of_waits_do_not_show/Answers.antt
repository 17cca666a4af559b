use Rattle.scc_semantics_laws.proofs.Unnumbered.{same-unnumbered}
use Rattle.scc_semantics_laws.proofs.laws.numbers_of_waits_do_not_show.Goals as goal

pub returns : goal.returns
returns c = same-unnumbered
