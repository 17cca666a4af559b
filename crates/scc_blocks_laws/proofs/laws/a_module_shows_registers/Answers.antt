use Rattle.scc_blocks_run_laws.specs.Follows.{registers_shown}
use Rattle.scc_blocks_laws.proofs.Follow.{steps-follow}
use Rattle.scc_blocks_laws.proofs.Shots.{steps-show}
use Rattle.scc_blocks_laws.proofs.laws.a_module_shows_registers.Goals as goal

pub returns : goal.returns
returns c = λ many p r m mo text at outputs named ts ss x g seen shots same pr mir finds steps are. steps-show p r text at m outputs named seen (registers_shown p ts g) shots (steps-follow many p r m mo ts ss x g seen same pr mir finds steps) are
