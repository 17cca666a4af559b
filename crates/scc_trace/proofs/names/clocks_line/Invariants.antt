use Rattle.std.proofs.Common.{◌≡◌, ◌++◌, take}
use Rattle.scc_trace.specs.Head.{names_text}
use Rattle.scc_trace.proofs.names.clocks_line.Given as goal

abbrev pub invariant-loop-clock : goal.invariant-loop-clock
invariant-loop-clock l = l.out ≡ l.initial.out ++ names_text (take l.clock-index l.clocks)
