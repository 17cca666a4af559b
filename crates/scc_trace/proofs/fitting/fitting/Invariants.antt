use Rattle.std.proofs.Common.{◌≡◌, drop}
use Rattle.scc_trace.specs.Text.{all_fit}
use Rattle.scc_trace.proofs.fitting.fitting.Given as goal

abbrev pub invariant-loop-port : goal.invariant-loop-port
invariant-loop-port l = all_fit (drop l.port-index l.ports) l.rest ≡ all_fit l.ports l.initial.rest
