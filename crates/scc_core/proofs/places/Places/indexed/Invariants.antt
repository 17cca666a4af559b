use Rattle.std.proofs.Common.{◌≡◌, drop}
use Rattle.scc_core.specs.Names.{of_indices, walk}
use Rattle.scc_core.proofs.places.Places.indexed.Given as goal

abbrev pub invariant-loop-i : goal.invariant-loop-i
invariant-loop-i l = walk l.self l.at (of_indices (drop l.i-index l.indices)) ≡ walk l.self l.initial.at (of_indices l.indices)
