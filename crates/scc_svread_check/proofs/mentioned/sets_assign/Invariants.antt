use Rattle.std.proofs.Common.{◌≡◌, map, drop}
use Rattle.scc_svread_check.specs.Mentioned.{each, set_assigned}
use Rattle.scc_svread_check.proofs.mentioned.sets_assign.Given as goal

abbrev pub invariant-loop-s : goal.invariant-loop-s
invariant-loop-s l = each (map set_assigned (drop l.s-index l.list)) l.found ≡ each (map set_assigned l.list) l.initial.found
