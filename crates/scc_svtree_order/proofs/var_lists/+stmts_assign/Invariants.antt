use Rattle.std.proofs.Common.{◌≡◌, map, drop}
use Rattle.scc_svtree_order.specs.VarLists.{each, assigned_in, assigned_in_arm}
use Rattle.scc_svtree_order.proofs.var_lists.+stmts_assign.Given as goal

abbrev pub invariant-stmts_assign-loop-s : goal.invariant-stmts_assign-loop-s
invariant-stmts_assign-loop-s l = each (map assigned_in (drop l.s-index l.list)) l.found ≡ each (map assigned_in l.list) l.initial.found

abbrev pub invariant-arms_assign-loop-a : goal.invariant-arms_assign-loop-a
invariant-arms_assign-loop-a l = each (map assigned_in_arm (drop l.a-index l.list)) l.found ≡ each (map assigned_in_arm l.list) l.initial.found
