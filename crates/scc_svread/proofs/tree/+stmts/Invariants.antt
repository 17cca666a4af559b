use Rattle.std.proofs.Common.{◌≡◌, ◌++◌, map, drop}
use Rattle.scc_svread_written.specs.Resolved.{arm_of, stmt_of}
use Rattle.scc_svread.proofs.tree.+stmts.Given as goal

abbrev pub invariant-stmts-loop-s : goal.invariant-stmts-loop-s
invariant-stmts-loop-s l = l.found ++ map (stmt_of l.names) (drop l.s-index l.list) ≡ map (stmt_of l.names) l.list

abbrev pub invariant-arms-loop-a : goal.invariant-arms-loop-a
invariant-arms-loop-a l = l.found ++ map (arm_of l.names) (drop l.a-index l.list) ≡ map (arm_of l.names) l.list
