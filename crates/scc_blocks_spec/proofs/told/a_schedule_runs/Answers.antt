use Rattle.scc_blocks_spec.proofs.Scheduling.{scheduled}
use Rattle.scc_blocks_spec.proofs.told.a_schedule_runs.Goals as goal

pub returns : goal.returns
returns c = scheduled
