use Rattle.std.proofs.Common.{◌≡◌, map, drop}
use Rattle.scc_core.specs.Known.{facts_in}
use Rattle.scc_core.specs.Located.{array_from}
use Rattle.scc_core.specs.Statics.{part_in}
use Rattle.scc_core.proofs.statics.Known.array_at.Given as goal

abbrev pub invariant-loop-part : goal.invariant-loop-part
invariant-loop-part l =
    array_from l.places (map (part_in (facts_in l.self)) (drop l.part-index l.parts)) l.first l.last l.count
    ≡ array_from l.places (map (part_in (facts_in l.self)) l.parts) l.fn.at l.fn.at 1
