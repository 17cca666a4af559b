use Rattle.std.proofs.Common.{◌≡◌, map, drop}
use Rattle.scc_svread_check.specs.Mentioned.{each, read_by}
use Rattle.scc_svread_check.proofs.mentioned.+reads.Given as goal

abbrev pub invariant-all_read-loop-e : goal.invariant-all_read-loop-e
invariant-all_read-loop-e l = each (map read_by (drop l.e-index l.list)) l.found ≡ each (map read_by l.list) l.initial.found
