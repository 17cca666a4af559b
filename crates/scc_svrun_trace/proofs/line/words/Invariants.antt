use Rattle.std.proofs.Common.{◌≡◌, ◌++◌, drop}
use Rattle.scc_svtree.specs.Variables.{word_at}
use Rattle.scc_svrun_trace.specs.Trace as trace
use Rattle.scc_svrun_trace.proofs.line.words.Given as goal

abbrev pub invariant-loop-v : goal.invariant-loop-v
invariant-loop-v l = l.list ++ trace.words_of (drop l.v-index l.vars) (word_at l.runner.words) ≡ trace.words_of l.vars (word_at l.runner.words)
