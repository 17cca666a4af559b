use Rattle.std.proofs.Common.{◌≡◌, map, drop}
use Rattle.scc_svtree_order.specs.VarLists.{each, read_in, read_in_arm}
use Rattle.scc_svtree_order.proofs.var_lists.+stmts_read.Given as goal

abbrev pub invariant-stmts_read-loop-s : goal.invariant-stmts_read-loop-s
invariant-stmts_read-loop-s l = each (map read_in (drop l.s-index l.list)) l.found ≡ each (map read_in l.list) l.initial.found

abbrev pub invariant-arms_read-loop-a : goal.invariant-arms_read-loop-a
invariant-arms_read-loop-a l = each (map read_in_arm (drop l.a-index l.list)) l.found ≡ each (map read_in_arm l.list) l.initial.found
