use Rattle.std.proofs.Common.{◌≡◌, ◌++◌, drop}
use Rattle.scc_svrun_trace.specs.Ports as ports
use Rattle.scc_svrun_trace.proofs.ports.outputs_of.Given as goal

abbrev pub invariant-loop-n : goal.invariant-loop-n
invariant-loop-n l = l.list ++ ports.outputs_from l.n (drop l.n l.vars) ≡ ports.outputs_from 0 l.vars
