use Rattle.std.proofs.Common.{◌≡◌, ◌++◌, drop}
use Rattle.scc_thin_module.specs.Emitted.{zeros_from}
use Rattle.scc_thin_module.proofs.emit.zeros.Given as goal

abbrev pub invariant-loop-i : goal.invariant-loop-i
invariant-loop-i l = l.list ++ zeros_from l.i (drop l.i l.ports) ≡ l.initial.list ++ zeros_from 0 l.ports
