use Rattle.std.proofs.Common.{◌≡◌, drop}
use Rattle.std.specs.List.{list_any}
use Rattle.scc_pointers_walk.specs.Located.{is_open, seen}
use Rattle.scc_pointers_walk.proofs.locate.is_open.Given as goal

abbrev pub invariant-loop-part : goal.invariant-loop-part
invariant-loop-part l = list_any is_open (seen l.r (drop l.part-index l.parts)) ≡ list_any is_open (seen l.r l.parts)
