use Rattle.std.proofs.Common.{◌≡◌, ◌++◌, ◌+◌, ◌*◌, length}
use Rattle.scc_svtext.specs.Tasks.{tasks_text}
use Rattle.scc_svtext.proofs.stmt.stmts.Given as goal

abbrev pub invariant-loop-task : goal.invariant-loop-task
invariant-loop-task l = l.out ++ tasks_text l.names l.tasks.items ≡ l.initial.out ++ tasks_text l.names l.initial.tasks.items

abbrev pub decreases-loop-task : goal.decreases-loop-task
decreases-loop-task l = 8 * length (tasks_text l.names l.tasks.items) + length l.tasks.items
