use Rattle.std.proofs.Common.{◌≡◌, drop}
use Rattle.scc_svread_check.specs.Scope.{declare_all}
use Rattle.scc_svread_check.proofs.first.declare_ports.Given as goal

abbrev pub invariant-loop-v : goal.invariant-loop-v
invariant-loop-v l = declare_all l.names (drop l.v-index l.list) ≡ declare_all l.initial.names l.list
