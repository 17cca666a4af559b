use Rattle.scc_pointers_laws.proofs.Sound.{element_sound, member_sound, pointed_sound}
use Rattle.scc_pointers_laws.proofs.laws.walks_stay_sound.Goals as goal

pub returns-clause-members : goal.returns-clause-members
returns-clause-members c = member_sound

pub returns-clause-elements : goal.returns-clause-elements
returns-clause-elements c = element_sound

pub returns-clause-targets : goal.returns-clause-targets
returns-clause-targets c = pointed_sound
