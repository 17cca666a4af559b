use Rattle.std.proofs.Common.{◌≡◌, drop}
use Rattle.scc_svread_check.specs.Drivers.{further_names}
use Rattle.scc_svread_check.proofs.drivers.further.Given as goal

abbrev pub invariant-loop-v : goal.invariant-loop-v
invariant-loop-v l = further_names l.f (drop l.v-index l.list) l.walk ≡ further_names l.f l.list l.fn.w
