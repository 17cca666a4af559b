use Rattle.scc_drive_source_laws.proofs.Whole.{fits-orderly}
use Rattle.scc_drive_source_laws.proofs.laws.what_fits_is_orderly.Goals as goal

pub returns : goal.returns
returns x = fits-orderly
