use Rattle.scc_svtree.specs.Settled.{Order, combs_of}
use Rattle.scc_svtree_order.specs.Fed.{graph_of}
use Rattle.scc_svtree_order.proofs.Placing.{Rounds}
use Rattle.scc_svtree_order.proofs.scheduling.schedule.Given as goal

abbrev pub invariant-loop : goal.invariant-loop
invariant-loop l = (o : Order (combs_of l.blocks)) → Rounds (combs_of l.blocks) o (graph_of l.blocks) l.counter l.done.items l.list.items
