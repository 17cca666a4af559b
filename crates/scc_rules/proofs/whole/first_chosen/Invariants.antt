use Rattle.std.proofs.Common.{◌≡◌, drop}
use Rattle.scc_core_spec.specs.First.{first_of}
use Rattle.scc_rules.specs.Chosen.{chosen_at}
use Rattle.scc_rules.proofs.whole.first_chosen.Given as goal

abbrev pub invariant-loop-load : goal.invariant-loop-load
invariant-loop-load l = first_of (chosen_at l.f) (drop l.load-index l.uses) ≡ first_of (chosen_at l.f) l.uses
