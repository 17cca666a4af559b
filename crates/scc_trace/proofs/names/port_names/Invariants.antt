use Rattle.std.proofs.Common.{◌≡◌, ◌++◌, take}
use Rattle.scc_trace.specs.Head.{names_text}
use Rattle.scc_trace.specs.Stimulus.{names_of}
use Rattle.scc_trace.proofs.names.port_names.Given as goal

abbrev pub invariant-loop-port : goal.invariant-loop-port
invariant-loop-port l = l.out ≡ l.initial.out ++ names_text (names_of (take l.port-index l.ports))
