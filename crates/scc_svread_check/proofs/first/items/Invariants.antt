use Rattle.std.proofs.Common.{◌≡◌, drop}
use Rattle.scc_svread_check.specs.First.{items_walk}
use Rattle.scc_svread_check.proofs.first.items.Given as goal

abbrev pub invariant-loop-i : goal.invariant-loop-i
invariant-loop-i l = items_walk l.names l.scope (drop l.i-index l.list) l.walk ≡ items_walk l.initial.names l.scope l.list l.fn.w
