use Rattle.scc_elab_growth_laws.proofs.Reaching.{begins, stays}
use Rattle.scc_elab_growth_laws.proofs.laws.constructors_run_at_reached_sites.Goals as goal

pub returns : goal.returns
returns c = record { begins = begins; stays = stays }
