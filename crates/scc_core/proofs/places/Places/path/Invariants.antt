use Rattle.std.proofs.Common.{◌≡◌, drop}
use Rattle.scc_core.specs.Names.{of_path, walk}
use Rattle.scc_core.proofs.places.Places.path.Given as goal

abbrev pub invariant-loop-part : goal.invariant-loop-part
invariant-loop-part l = walk l.self l.at (of_path (drop l.part-index l.path)) ≡ walk l.self l.initial.at (of_path l.path)
