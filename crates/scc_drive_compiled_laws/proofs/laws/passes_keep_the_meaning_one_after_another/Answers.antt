use Rattle.scc_drive_compiled_laws.proofs.Joined.{law-then}
use Rattle.scc_drive_compiled_laws.proofs.laws.passes_keep_the_meaning_one_after_another.Goals as goal

pub returns : goal.returns
returns x = law-then
