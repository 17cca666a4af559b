use Rattle.scc_pointers_spec.proofs.Alike.{body_freed, program_freed}
use Rattle.scc_pointers_spec.proofs.laws.declared_pointers_are_resolved_alike.Goals as goal

pub returns-clause-bodies : goal.returns-clause-bodies
returns-clause-bodies c = body_freed

pub returns-clause-programs : goal.returns-clause-programs
returns-clause-programs c = program_freed
