use Rattle.std.proofs.Common.{◌≡◌, drop}
use Rattle.scc_core_flow.specs.Live.{Each}
use Rattle.scc_core_spec.specs.First.{first_of}
use Rattle.scc_core_spec.specs.Static.{Cells}
use Rattle.scc_rules.specs.Chosen.{AreLocated, chosen_by, own_in}
use Rattle.scc_rules.proofs.rules.first_choosing.Given as goal

abbrev pub invariant-loop-p : goal.invariant-loop-p
invariant-loop-p l = (cs : Cells) → Each (λ p. AreLocated l.f cs (own_in p)) l.processes → first_of (chosen_by cs) (drop l.p-index l.processes) ≡ first_of (chosen_by cs) l.processes
