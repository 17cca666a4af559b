-- The segments that the trees of a split thread stand for. This project's own.
use Rattle.std.specs.Prelude.{◌∷◌, map}
use Rattle.scc_states.specs.declared.types.Split.{Split}
use Rattle.scc_states_cut.specs.Cut.{segment_of}
use Rattle.scc_blocks_spec.specs.Passed.{Thread}

-- a split as a thread that is cut
abbrev pub split_thread : Split → Thread
split_thread s = record {
  segments = segment_of s.waits s.reset ∷ map (segment_of s.waits) s.segments;
  waits = s.waits;
  kept = s.kept;
}
