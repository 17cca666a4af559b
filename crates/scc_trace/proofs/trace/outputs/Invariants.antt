use Rattle.std.proofs.Common.{◌≡◌, ◌++◌, drop}
use Rattle.scc_trace.specs.Text.{shown}
use Rattle.scc_trace.proofs.trace.outputs.Given as goal

abbrev pub invariant-loop-port : goal.invariant-loop-port
invariant-loop-port l = l.out ++ shown (drop l.port-index l.ports) l.rest ≡ l.initial.out ++ shown l.ports l.initial.rest
