use Rattle.scc_lower_tree_laws.proofs.Literals.{sound-literal}
use Rattle.scc_lower_tree_laws.proofs.laws.literals_are_sound.Goals as goal

pub returns : goal.returns
returns c = λ g s e w q v small. sound-literal g s e w q v small
