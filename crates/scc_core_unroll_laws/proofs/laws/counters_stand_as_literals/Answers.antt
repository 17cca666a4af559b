use Rattle.scc_core_unroll_laws.proofs.Counters.{value-same}
use Rattle.scc_core_unroll_laws.proofs.laws.counters_stand_as_literals.Goals as goal

pub returns : goal.returns
returns c = λ w counters signals ns a e h. value-same w counters signals ns a e h
