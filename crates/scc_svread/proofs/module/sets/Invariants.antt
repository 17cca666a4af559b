use Rattle.std.proofs.Common.{◌≡◌, ◌++◌, map, drop}
use Rattle.scc_svread_written.specs.Resolved.{set_of}
use Rattle.scc_svread.proofs.module.sets.Given as goal

abbrev pub invariant-loop-s : goal.invariant-loop-s
invariant-loop-s l = l.found ++ map (set_of l.names) (drop l.s-index l.list) ≡ map (set_of l.names) l.list
