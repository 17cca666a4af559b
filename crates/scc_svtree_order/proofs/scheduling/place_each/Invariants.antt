use Rattle.scc_svtree_order.specs.Schedule.{Swept}
use Rattle.scc_svtree_order.proofs.scheduling.place_each.Given as goal

abbrev pub invariant-loop-k : goal.invariant-loop-k
invariant-loop-k l = Swept l.g 0 l.initial.done.items l.initial.list.items l.done.items l.list.items
