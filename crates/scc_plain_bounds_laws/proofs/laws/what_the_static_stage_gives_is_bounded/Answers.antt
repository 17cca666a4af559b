use Rattle.scc_plain_bounds_laws.proofs.Program.{what-is-bounded}
use Rattle.scc_plain_bounds_laws.proofs.laws.what_the_static_stage_gives_is_bounded.Goals as goal

pub returns : goal.returns
returns c = what-is-bounded
