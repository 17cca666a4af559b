use Rattle.std.proofs.Common.{drop}
use Rattle.scc_svtree.specs.Steps as steps
use Rattle.scc_svrun_trace.specs.Clocked as clocked
use Rattle.scc_svrun_trace.proofs.Listed.{Listed}
use Rattle.scc_svrun_trace.proofs.clocks.clocks_in.Given as goal

abbrev pub invariant-loop-n : goal.invariant-loop-n
invariant-loop-n l = Listed (steps.is_clock l.m.blocks) l.n (drop l.n l.vars) l.rest l.list (clocked.clocks_of l.m)
