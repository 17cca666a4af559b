use Rattle.std.proofs.Common.{◌≡◌, ◌*◌, ◌^◌, ◌<◌, drop}
use Rattle.scc_trace.specs.Stimulus.{number_from}
use Rattle.scc_trace.proofs.value.number.Given as goal

abbrev pub invariant-loop-b : goal.invariant-loop-b
invariant-loop-b l = (number_from l.n (drop l.b-index l.digits) ≡ number_from 0 l.digits) × (l.n < 2 ^ (4 * l.b-index))
