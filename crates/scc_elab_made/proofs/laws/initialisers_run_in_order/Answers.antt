use Rattle.scc_elab_made.proofs.Picking.{run_takes, run_passes}
use Rattle.scc_elab_made.proofs.laws.initialisers_run_in_order.Goals as goal

pub returns : goal.returns
returns c = record { taken = λ p a x xs h n e. run_takes p a x xs h n e; left = λ p a x xs h n e. run_passes p a x xs h n e }
