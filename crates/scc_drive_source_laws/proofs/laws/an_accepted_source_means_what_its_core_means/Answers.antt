use Rattle.scc_drive_source_laws.proofs.Whole.{means-same}
use Rattle.scc_drive_source_laws.proofs.laws.an_accepted_source_means_what_its_core_means.Goals as goal

pub returns : goal.returns
returns x = λ many s top p r gives accepts fit. means-same many s top p r gives accepts fit
