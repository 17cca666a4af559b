use Rattle.std.proofs.Common.{◌≡◌, drop}
use Rattle.scc_svread_check.specs.Drivers.{behind}
use Rattle.scc_svread_check.proofs.edge.behind.Given as goal

abbrev pub invariant-loop-i : goal.invariant-loop-i
invariant-loop-i l = behind l.name (drop l.i l.list) ≡ behind l.name l.list
