use Rattle.std.proofs.Common.{◌≡◌, ◌++◌, drop}
use Rattle.scc_svrun_trace.specs.Clocked as clocked
use Rattle.scc_svrun_trace.proofs.clocks.names_of.Given as goal

abbrev pub invariant-loop-v : goal.invariant-loop-v
invariant-loop-v l = l.list ++ clocked.names_at l.m.vars (drop l.v-index l.vars) ≡ clocked.names_at l.m.vars l.vars
