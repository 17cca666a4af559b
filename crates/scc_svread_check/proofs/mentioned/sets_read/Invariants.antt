use Rattle.std.proofs.Common.{◌≡◌, map, drop}
use Rattle.scc_svread_check.specs.Mentioned.{each, set_read}
use Rattle.scc_svread_check.proofs.mentioned.sets_read.Given as goal

abbrev pub invariant-loop-s : goal.invariant-loop-s
invariant-loop-s l = each (map set_read (drop l.s-index l.list)) l.found ≡ each (map set_read l.list) l.initial.found
