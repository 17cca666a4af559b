use Rattle.std.proofs.Common.{◌≡◌, map, drop}
use Rattle.scc_svread_check.specs.Mentioned.{each}
use Rattle.scc_svread_check.specs.Drivers.{item_clock}
use Rattle.scc_svread_check.proofs.facts.clocks.Given as goal

abbrev pub invariant-loop-i : goal.invariant-loop-i
invariant-loop-i l = each (map item_clock (drop l.i-index l.list)) l.found ≡ each (map item_clock l.list) l.initial.found
