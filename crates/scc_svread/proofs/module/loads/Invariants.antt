use Rattle.std.proofs.Common.{◌≡◌, ◌++◌, map, drop}
use Rattle.scc_svread_written.specs.Resolved.{load_of}
use Rattle.scc_svread.proofs.module.loads.Given as goal

abbrev pub invariant-loop-l : goal.invariant-loop-l
invariant-loop-l l = l.found ++ map (load_of l.names) (drop l.l-index l.list) ≡ map (load_of l.names) l.list
