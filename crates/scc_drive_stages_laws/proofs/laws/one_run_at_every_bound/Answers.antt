use Rattle.scc_drive_stages_laws.proofs.Bounds.{one-run}
use Rattle.scc_drive_stages_laws.proofs.laws.one_run_at_every_bound.Goals as goal

pub returns : goal.returns
returns c = one-run
