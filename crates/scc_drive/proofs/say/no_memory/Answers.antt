use Rattle.scc_drive.proofs.Saying.{memory_more}
use Rattle.scc_drive.proofs.say.no_memory.Goals as goal

pub returns-in-Err-Failed-clause-parts : goal.returns-in-Err-Failed-clause-parts
returns-in-Err-Failed-clause-parts g c = memory_more c.no_memory.result.now _ _ _ c.no_memory.ensures.text c.in-Err-Failed.ensures.part c.output_failed.ensures.parts
