use Rattle.std.proofs.Common.{◌≡◌, drop}
use Rattle.scc_core_spec.specs.First.{first_of}
use Rattle.scc_rules.specs.Stands.{idling}
use Rattle.scc_rules.proofs.rules.first_idling.Given as goal

abbrev pub invariant-loop-live : goal.invariant-loop-live
invariant-loop-live l = first_of idling (drop l.live-index l.lives) ≡ first_of idling l.lives
