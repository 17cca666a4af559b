use Rattle.scc_drive_source_laws.proofs.Whole.{is-timely}
use Rattle.scc_drive_source_laws.proofs.laws.an_accepted_source_is_timely.Goals as goal

pub returns : goal.returns
returns x = λ many s top p r gives accepts fit. is-timely many s top p r gives accepts fit
