use Rattle.scc_drive_source_laws.proofs.Accepted.{stages-of}
use Rattle.scc_drive_source_laws.proofs.laws.an_accepted_program_comes_of_its_stages.Goals as goal

pub returns : goal.returns
returns x = λ many p r e. let z = stages-of many p r e in (z.design, z.core, z.elaborates, z.copies, z.resolves, z.none)
