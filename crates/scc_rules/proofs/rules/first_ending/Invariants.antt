use Rattle.std.proofs.Common.{◌≡◌, drop}
use Rattle.scc_rules_laws.specs.Found.{first_along}
use Rattle.scc_rules.specs.Stands.{ending}
use Rattle.scc_rules.proofs.rules.first_ending.Given as goal

abbrev pub invariant-loop-k : goal.invariant-loop-k
invariant-loop-k l = first_along ending (drop l.k l.processes) (drop l.k l.ends) ≡ first_along ending l.processes l.ends
