use Rattle.std.proofs.Common.{◌≡◌, min, map, take}
use Rattle.scc_drive_sim.specs.Segments.{most, total, statement_statements}
use Rattle.scc_drive_sim.proofs.bounds.+segment.Given as goal

abbrev pub invariant-segment_size-loop-s : goal.invariant-segment_size-loop-s
invariant-segment_size-loop-s l = l.size ≡ min (total (map statement_statements (take l.s-index l.list))) most
