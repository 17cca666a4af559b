use Rattle.scc_thin_module.proofs.Shown.{thin_shown}
use Rattle.scc_thin_module.proofs.laws.thin_texts_are_shown.Goals as goal

pub returns : goal.returns
returns c = record { shown = thin_shown }
