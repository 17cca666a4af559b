use Rattle.std.proofs.Common.{◌≡◌, drop, map, false}
use Rattle.scc_core.specs.Elements.{step_at}
use Rattle.scc_core.specs.Names.{walk}
use Rattle.scc_pointers_walk.specs.Located.{seen}
use Rattle.scc_pointers_walk.proofs.locate.behind.Given as goal

abbrev pub invariant-loop-part : goal.invariant-loop-part
invariant-loop-part l = walk l.r.places.now l.at (map (step_at false) (seen l.r (drop l.part-index l.parts))) ≡ walk l.r.places.now l.initial.at (map (step_at false) (seen l.r l.parts))
