use Rattle.std.proofs.Common.{◌≡◌, drop}
use Rattle.scc_core_spec.specs.First.{first_of}
use Rattle.scc_rules.specs.Stands.{waiting}
use Rattle.scc_rules.proofs.rules.first_waiting.Given as goal

abbrev pub invariant-loop-p : goal.invariant-loop-p
invariant-loop-p l = first_of waiting (drop l.p-index l.processes) ≡ first_of waiting l.processes
