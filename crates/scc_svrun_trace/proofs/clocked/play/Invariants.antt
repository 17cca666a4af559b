use Rattle.std.proofs.Common.{◌≡◌, ℕ, List, map, drop}
use Rattle.scc_svtree.specs.Variables.{word_at}
use Rattle.scc_svrun_trace.specs.Clocked.{input_of, AreAllHanded}
use Rattle.scc_svrun_trace.specs.Trace.{Appended}
use Rattle.scc_svrun_trace.proofs.clocked.play.Given as goal

abbrev pub invariant-loop-number : goal.invariant-loop-number
invariant-loop-number l = record {
  same : l.runner.top ≡ l.initial.runner.top;
  fitting : AreAllHanded l.initial.runner.top (drop l.number l.steps);
  more : (new : List ℕ) → Appended l.initial.runner.top (word_at l.runner.words) l.number (map (input_of l.initial.runner.top) (drop l.number l.steps)) l.out new →
      Appended l.initial.runner.top (word_at l.initial.runner.words) 0 (map (input_of l.initial.runner.top) l.steps) l.initial.out new;
}
