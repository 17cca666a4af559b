use Rattle.std.proofs.Common.{◌≡◌, drop, false}
use Rattle.scc_pointers_walk.specs.Located.{chooses, seen}
use Rattle.scc_pointers_walk.proofs.locate.chooses_object.Given as goal

abbrev pub invariant-loop-part : goal.invariant-loop-part
invariant-loop-part l = chooses l.chosen (seen l.r (drop l.part-index l.parts)) ≡ chooses false (seen l.r l.parts)
