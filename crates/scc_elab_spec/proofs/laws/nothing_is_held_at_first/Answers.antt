use Rattle.std.proofs.Common.{refl}
use Rattle.scc_elab_spec.proofs.laws.nothing_is_held_at_first.Goals as goal

pub returns : goal.returns
returns c s = record { words = λ l e. refl; targets = λ l e. refl }
