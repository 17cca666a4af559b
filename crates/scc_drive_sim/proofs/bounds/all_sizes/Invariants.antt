use Rattle.std.proofs.Common.{◌≡◌, min, map, take}
use Rattle.scc_drive_sim.specs.Segments.{most, total, segment_statements}
use Rattle.scc_drive_sim.proofs.bounds.all_sizes.Given as goal

abbrev pub invariant-loop-segment : goal.invariant-loop-segment
invariant-loop-segment l = l.size ≡ min (total (map segment_statements (take l.segment-index l.segments))) most
