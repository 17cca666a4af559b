use Rattle.std.proofs.Common.{◌≡◌, map, drop}
use Rattle.scc_svread_check.specs.Mentioned.{each, load_assigned}
use Rattle.scc_svread_check.proofs.mentioned.loads_assign.Given as goal

abbrev pub invariant-loop-l : goal.invariant-loop-l
invariant-loop-l l = each (map load_assigned (drop l.l-index l.list)) l.found ≡ each (map load_assigned l.list) l.initial.found
