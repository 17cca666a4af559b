use Rattle.std.proofs.Common.{◌≡◌, drop}
use Rattle.scc_thin.specs.Resolved.{are_written}
use Rattle.scc_thin.proofs.thin.resolve.all_written.Given as goal

abbrev pub invariant-loop-i : goal.invariant-loop-i
invariant-loop-i l = are_written l.set l.i (drop l.i l.ports) ≡ are_written l.set 0 l.ports
