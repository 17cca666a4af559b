use Rattle.std.proofs.Common.{◌≡◌, map, drop}
use Rattle.scc_svtree_order.specs.VarLists.{each, read_by}
use Rattle.scc_svtree_order.proofs.var_lists.+reads.Given as goal

abbrev pub invariant-each_reads-loop-e : goal.invariant-each_reads-loop-e
invariant-each_reads-loop-e l = each (map read_by (drop l.e-index l.list)) l.found ≡ each (map read_by l.list) l.initial.found
