use Rattle.std.proofs.Common.{◌≡◌, ◌++◌, length, drop}
use Rattle.scc_svtree_order.specs.Search.{is_seen}
use Rattle.scc_svrun.specs.Runs as runs
use Rattle.scc_svrun.proofs.inputs.unmarked.Given as goal

abbrev pub invariant-loop-n : goal.invariant-loop-n
invariant-loop-n l = l.list.items ++ runs.inputs_from l.n (is_seen l.marks) (drop l.n l.vars) ≡ runs.inputs_from 0 (is_seen l.marks) l.vars
