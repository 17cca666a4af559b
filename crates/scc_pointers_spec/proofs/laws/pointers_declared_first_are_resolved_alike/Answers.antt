use Rattle.scc_pointers_spec.proofs.Declared.{body-same, program-same}
use Rattle.scc_pointers_spec.proofs.laws.pointers_declared_first_are_resolved_alike.Goals as goal

pub returns-clause-bodies : goal.returns-clause-bodies
returns-clause-bodies c = body-same

pub returns-clause-programs : goal.returns-clause-programs
returns-clause-programs c = program-same
