use Rattle.std.proofs.Common.{take}
use Rattle.scc_core_flow.specs.Live.{DecidesAll, Each}
use Rattle.scc_core_spec.specs.Static.{Cells}
use Rattle.scc_rules.specs.Stands.{HasBodies}
use Rattle.scc_rules.proofs.facts.lives_of.Given as goal

abbrev pub invariant-loop-process : goal.invariant-loop-process
invariant-loop-process l = (cs : Cells) → Each (λ p. DecidesAll l.known cs p.body) l.processes → HasBodies cs (take l.process-index l.processes) l.lives
