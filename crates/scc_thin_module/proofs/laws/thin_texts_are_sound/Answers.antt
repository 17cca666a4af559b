use Rattle.scc_thin_module.proofs.Shown.{joined_faultless}
use Rattle.scc_thin_module.proofs.laws.thin_texts_are_sound.Goals as goal

pub returns : goal.returns
returns c = record { sound = joined_faultless }
