use Rattle.std.proofs.Common.{◌≡◌, ◌++◌, drop}
use Rattle.scc_trace.specs.Text.{values_text}
use Rattle.scc_trace.proofs.written.step_values.Given as goal

abbrev pub invariant-loop-port : goal.invariant-loop-port
invariant-loop-port l = l.out ++ values_text (drop l.port-index l.ports) l.rest ≡ l.initial.out ++ values_text l.ports l.initial.rest
