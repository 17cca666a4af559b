use Rattle.scc_pointers_laws.proofs.Walks.{put_is, target_is, target_sound}
use Rattle.scc_pointers_laws.proofs.laws.what_is_assigned_is_the_definitions.Goals as goal

pub returns-clause-locations : goal.returns-clause-locations
returns-clause-locations c = λ r k f l w. put_is r k f w

pub returns-clause-targets : goal.returns-clause-targets
returns-clause-targets c = λ r k l w. target_is r k w

pub returns-clause-sound : goal.returns-clause-sound
returns-clause-sound c = λ r k l m w e. target_sound r k w m e
