use Rattle.std.proofs.Common.{◌≡◌, ◌++◌, drop}
use Rattle.scc_svrun_trace.specs.Clocked as clocked
use Rattle.scc_svrun_trace.proofs.clocks.chosen.Given as goal

abbrev pub invariant-loop-clock : goal.invariant-loop-clock
invariant-loop-clock l = l.list ++ clocked.chosen (drop l.clock-index l.clocks) l.rest ≡ clocked.chosen l.clocks l.fn.mask.bits
