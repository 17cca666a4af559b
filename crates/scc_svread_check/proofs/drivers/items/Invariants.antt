use Rattle.std.proofs.Common.{◌≡◌, drop}
use Rattle.scc_svread_check.specs.Drivers.{items_walk}
use Rattle.scc_svread_check.proofs.drivers.items.Given as goal

abbrev pub invariant-loop-i : goal.invariant-loop-i
invariant-loop-i l = items_walk l.many l.f l.t (drop l.i-index l.list) l.walk ≡ items_walk l.many l.f l.initial.t l.list l.fn.w
