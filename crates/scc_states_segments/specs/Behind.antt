-- The segments behind the waits of parts. This project's own.
use Rattle.std.specs.Prelude.{List, []}
use Rattle.scc_core_spec.specs.Segments.{Segment}
use Rattle.scc_states_segments.specs.declared.parts.Part.{Part}
use Rattle.scc_states_segments.specs.Parts.{Walk, part_walk, walk_of}
use Rattle.scc_states_segments.specs.Frames.{Scene}

-- those of all parts
abbrev pub behind_waits : List Part → Scene → List Segment
behind_waits ps s = (walk_of ps).others s.next s.outer

-- the same where nothing is told of the waits further on
abbrev pub quiet : Walk → Walk
quiet w = record { first = w.first; others = λ x o. [] }

-- those of one part, before others
abbrev pub own_waits : Part → List Part → Scene → List Segment
own_waits p ps s = (part_walk p (quiet (walk_of ps))).others s.next s.outer
