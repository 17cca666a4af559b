use Rattle.std.proofs.Common.{◌≡◌, drop}
use Rattle.scc_trace.specs.Spans.{words_behind_in}
use Rattle.scc_trace.specs.Stimulus.{found_of, widths_of}
use Rattle.scc_trace.proofs.Turns.{merged}
use Rattle.scc_trace.proofs.found.values.Given as goal

abbrev pub invariant-loop-port : goal.invariant-loop-port
invariant-loop-port l = merged l.words l.wide (found_of (widths_of (drop l.port-index l.ports)) (words_behind_in l.rest)) ≡ found_of (widths_of l.ports) (words_behind_in l.initial.rest)
