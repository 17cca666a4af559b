use Rattle.scc_plain_kinds_laws.proofs.Program.{what-is-kinded}
use Rattle.scc_plain_kinds_laws.proofs.laws.what_the_static_stage_gives_is_kinded.Goals as goal

pub returns : goal.returns
returns c = what-is-kinded
