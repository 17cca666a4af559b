use Rattle.std.proofs.Common.{◌≡◌, drop, Some}
use Rattle.scc_core_spec.specs.First.{first_of}
use Rattle.scc_core_spec.specs.Rules.{waits}
use Rattle.scc_core_view.specs.Codes.{code_of}
use Rattle.scc_rules_walks.proofs.waits.+first_wait.Given as goal

abbrev pub invariant-first_wait-loop-s : goal.invariant-first_wait-loop-s
invariant-first_wait-loop-s l = first_of Some (waits (code_of (drop l.s-index l.body))) ≡ first_of Some (waits (code_of l.body))
