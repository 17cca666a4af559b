use Rattle.std.proofs.Common.{◌≡◌, ◌++◌, map, drop}
use Rattle.scc_svrun_trace.specs.Ports as ports
use Rattle.scc_svrun_trace.proofs.ports.ports_of.Given as goal

abbrev pub invariant-loop-v : goal.invariant-loop-v
invariant-loop-v l = l.list ++ map (ports.port_of l.m) (drop l.v-index l.vars) ≡ map (ports.port_of l.m) l.vars
