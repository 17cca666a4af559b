use Rattle.std.proofs.Common.{◌≡◌, map, drop}
use Rattle.scc_svread_check.specs.Mentioned.{each, item_assigned}
use Rattle.scc_svread_check.proofs.mentioned.items_assign.Given as goal

abbrev pub invariant-loop-i : goal.invariant-loop-i
invariant-loop-i l = each (map item_assigned (drop l.i-index l.list)) l.found ≡ each (map item_assigned l.list) l.initial.found
