use Rattle.scc_inline_orderly_laws.proofs.Elaborated.{made-orderly, program-orderly}
use Rattle.scc_drive_compiled_laws.proofs.Passed.{both-passes}
use Rattle.scc_drive_compiled_laws.proofs.laws.unrolled_loops_and_resolved_pointers_keep_the_meaning.Goals as goal

pub returns : goal.returns
returns x = λ many p d c r constant whole kinded elaborates passes. both-passes many p d c r constant whole kinded elaborates (made-orderly many p d elaborates whole (program-orderly p d passes))
