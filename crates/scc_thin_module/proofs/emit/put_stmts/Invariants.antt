use Rattle.std.proofs.Common.{◌≡◌, ◌++◌, map, take}
use Rattle.scc_thin_module.specs.Emitted.{put_stmt}
use Rattle.scc_thin_module.proofs.emit.put_stmts.Given as goal

abbrev pub invariant-loop-p : goal.invariant-loop-p
invariant-loop-p l = l.list ≡ l.initial.list ++ map (put_stmt l.ports) (take l.p-index l.puts)
