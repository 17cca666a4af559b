use Rattle.scc_core_effect_laws.proofs.Depends.{same-effect}
use Rattle.scc_core_effect_laws.proofs.Parts.{same-segment}
use Rattle.scc_core_effect_laws.proofs.Lateness.{told}
use Rattle.scc_core_laws.proofs.laws.a_resume_depends_on_early_reads.Goals as goal

pub returns-clause-code : goal.returns-clause-code
returns-clause-code c = same-effect

pub returns-clause-segment : goal.returns-clause-segment
returns-clause-segment c = same-segment

pub returns-clause-told : goal.returns-clause-told
returns-clause-told c = told
