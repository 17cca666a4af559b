use Rattle.scc_core_resolved_laws.proofs.Told.{told}
use Rattle.scc_core_resolved_laws.proofs.laws.what_is_named_is_told.Goals as goal

pub returns : goal.returns
returns c cs a l s n fixed sized e g = told cs a fixed l s n sized e g
