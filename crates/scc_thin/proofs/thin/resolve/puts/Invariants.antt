use Rattle.std.proofs.Common.{◌≡◌, drop}
use Rattle.scc_thin.specs.Gives.{each}
use Rattle.scc_thin.specs.Resolved.{put_of}
use Rattle.scc_thin.proofs.Each.{behind}
use Rattle.scc_thin.proofs.thin.resolve.puts.Given as goal

abbrev pub invariant-loop-w : goal.invariant-loop-w
invariant-loop-w l = behind l.list (each (put_of l.ports) (drop l.w-index l.writes)) ≡ each (put_of l.ports) l.writes
