use Rattle.std.proofs.Common.{◌≡◌, ◌++◌, map, drop}
use Rattle.scc_svread_written.specs.Resolved.{expr_of}
use Rattle.scc_svread.proofs.tree.+exprs.Given as goal

abbrev pub invariant-exprs-loop-e : goal.invariant-exprs-loop-e
invariant-exprs-loop-e l = l.found ++ map (expr_of l.names) (drop l.e-index l.list) ≡ map (expr_of l.names) l.list
