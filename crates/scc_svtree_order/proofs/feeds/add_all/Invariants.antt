use Rattle.std.proofs.Common.{◌≡◌, ◌++◌, take}
use Rattle.scc_svtree_order.proofs.feeds.add_all.Given as goal

abbrev pub invariant-loop-x : goal.invariant-loop-x
invariant-loop-x l = l.found ≡ l.initial.found ++ take l.x-index l.list
