use Rattle.std.proofs.Common.{◌≡◌, [], map, drop}
use Rattle.scc_core.specs.Known.{facts_in}
use Rattle.scc_core.specs.Located.{row_from}
use Rattle.scc_core.specs.Statics.{part_in}
use Rattle.scc_core.proofs.statics.Known.row.Given as goal

abbrev pub invariant-loop-part : goal.invariant-loop-part
invariant-loop-part l =
    row_from (map (part_in (facts_in l.self)) (drop l.part-index l.parts)) l.base l.stride l.number l.dims
    ≡ row_from (map (part_in (facts_in l.self)) l.parts) l.first l.count 0 []
