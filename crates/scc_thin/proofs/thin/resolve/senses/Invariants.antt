use Rattle.std.proofs.Common.{◌≡◌, drop}
use Rattle.scc_thin.specs.Gives.{each}
use Rattle.scc_thin.specs.Resolved.{input_named}
use Rattle.scc_thin.proofs.Each.{behind}
use Rattle.scc_thin.proofs.thin.resolve.senses.Given as goal

abbrev pub invariant-loop-n : goal.invariant-loop-n
invariant-loop-n l = behind l.list (each (input_named l.ports) (drop l.n-index l.names)) ≡ each (input_named l.ports) l.names
