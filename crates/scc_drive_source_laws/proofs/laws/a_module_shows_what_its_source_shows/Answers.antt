use Rattle.scc_drive_source_laws.proofs.Whole.{module-is}
use Rattle.scc_drive_source_laws.proofs.laws.a_module_shows_what_its_source_shows.Goals as goal

pub returns : goal.returns
returns x = λ many s top p r gives accepts fit. module-is many s top p r gives accepts fit
