use Rattle.scc_plain_kinds_laws.proofs.Different.{what-is-whole}
use Rattle.scc_plain_kinds_laws.proofs.laws.what_the_static_stage_gives_is_whole.Goals as goal

pub returns : goal.returns
returns c = what-is-whole
