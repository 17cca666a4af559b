use Rattle.scc_drive_spec.proofs.One.{one_verdict}
use Rattle.scc_drive_spec.proofs.Some.{some_verdict}
use Rattle.scc_drive_spec.proofs.laws.what_a_request_comes_to_is_one.Goals as goal

pub returns-clause-one : goal.returns-clause-one
returns-clause-one c q shelf x y p p' = one_verdict q shelf x y p p'

pub returns-clause-some : goal.returns-clause-some
returns-clause-some c q shelf = some_verdict q shelf
