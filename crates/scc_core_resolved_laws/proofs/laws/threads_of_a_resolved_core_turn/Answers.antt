use Rattle.scc_core_spec.specs.Constants.{constants_of}
use Rattle.scc_states_laws.proofs.Turned.{threads, methods}
use Rattle.scc_states_laws.proofs.Closed.{alone}
use Rattle.scc_states_laws.proofs.InTime.{in_time}
use Rattle.scc_core_resolved_laws.proofs.Apart.{tells-apart}
use Rattle.scc_core_resolved_laws.proofs.Inputs.{all-kept}
use Rattle.scc_core_resolved_laws.proofs.Parts.{fits, exits}
use Rattle.scc_core_resolved_laws.proofs.laws.threads_of_a_resolved_core_turn.Goals as goal

pub returns-clause-turns : goal.returns-clause-turns
returns-clause-turns c home p i q signals is r at waits = threads home (constants_of home p) p i q signals at (all-kept home is p r) (tells-apart home is p r i q at) (fits p i q r at) waits

pub returns-clause-waits : goal.returns-clause-waits
returns-clause-waits c home p i q signals is r at loops ends thread =
    in_time home (constants_of home p) p i q signals at (all-kept home is p r) (tells-apart home is p r i q at) (fits p i q r at) loops ends thread (exits p i q r at)

pub returns-clause-methods : goal.returns-clause-methods
returns-clause-methods c home p i q signals is r at loops waits method =
    methods home (constants_of home p) p i q signals at (all-kept home is p r) (tells-apart home is p r i q at) (fits p i q r at) loops (alone p i q waits at method (exits p i q r at))
