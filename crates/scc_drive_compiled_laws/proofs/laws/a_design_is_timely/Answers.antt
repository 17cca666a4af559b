use Rattle.scc_core_spec.specs.Constants.{constants_of}
use Rattle.scc_inline_spec.specs.Inlined.{home_of}
use Rattle.scc_inline_orderly_laws.proofs.Elaborated.{made-orderly, program-orderly}
use Rattle.scc_drive_compiled_laws.proofs.Passed.{both-passes, resolves}
use Rattle.scc_drive_compiled_laws.proofs.Timely.{timely, orders}
use Rattle.scc_drive_compiled_laws.proofs.laws.a_design_is_timely.Goals as goal

pub returns-clause-in_time : goal.returns-clause-in_time
returns-clause-in_time x = λ many p d c r whole kinded elaborates passes made resolved fit none.
    let orderly = made-orderly many p d elaborates whole (program-orderly p d passes) in
    timely p d c r 3 orderly made (both-passes many p d c r (constants_of (home_of p d) r) whole kinded elaborates orderly made resolved) (resolves many p d c r (constants_of (home_of p d) r) whole kinded elaborates orderly made resolved fit) none

pub returns-clause-any_order : goal.returns-clause-any_order
returns-clause-any_order x = λ many p d c r whole kinded elaborates passes made resolved fit none.
    let orderly = made-orderly many p d elaborates whole (program-orderly p d passes) in
    orders p d c r 3 orderly made (both-passes many p d c r (constants_of (home_of p d) r) whole kinded elaborates orderly made resolved) (resolves many p d c r (constants_of (home_of p d) r) whole kinded elaborates orderly made resolved fit) none
