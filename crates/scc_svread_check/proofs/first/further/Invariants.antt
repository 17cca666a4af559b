use Rattle.std.proofs.Common.{◌≡◌, drop}
use Rattle.scc_svread_check.specs.First.{further_ports}
use Rattle.scc_svread_check.specs.Scope.{declare_all}
use Rattle.scc_svread_check.proofs.first.further.Given as goal

abbrev pub invariant-loop-v : goal.invariant-loop-v
invariant-loop-v l = (further_ports l.names (drop l.v-index l.list) l.walk ≡ further_ports l.initial.names l.list l.fn.w) × (declare_all l.names (drop l.v-index l.list) ≡ declare_all l.initial.names l.list)
