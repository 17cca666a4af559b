use Rattle.std.proofs.Common.{refl}
use Rattle.scc_inline_core_laws.proofs.WorkedCore.{worked-laid}
use Rattle.scc_inline_core_laws.proofs.laws.the_worked_program_meets_what_is_asked.Goals as goal

pub returns-clause-kinded : goal.returns-clause-kinded
returns-clause-kinded c = refl

pub returns-clause-whole : goal.returns-clause-whole
returns-clause-whole c = refl

pub returns-clause-laid : goal.returns-clause-laid
returns-clause-laid c = worked-laid

pub returns-clause-resolved : goal.returns-clause-resolved
returns-clause-resolved c = refl

pub returns-clause-other : goal.returns-clause-other
returns-clause-other c = refl
