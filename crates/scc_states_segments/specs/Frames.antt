-- What follows the parts at which a path stands. This project's own.
use Rattle.std.specs.Prelude.{List, [], ◌∷◌, Option, Some, None}
use Rattle.std.specs.Borrow.{Bor}
use Rattle.scc_core_spec.specs.Segments.{Segment, Finish}
use Rattle.scc_states_segments.specs.declared.path.Frame.{Frame}
use Rattle.scc_states_segments.specs.declared.path.Sort.{Sort}
use Rattle.scc_states_segments.specs.declared.path.Sort.TheVariants as sort
use Rattle.scc_states_segments.specs.declared.path.Step.{Step}
use Rattle.scc_states_segments.specs.declared.path.Step.TheVariants as step
use Rattle.scc_states_segments.specs.declared.parts.Part.{Part}
use Rattle.scc_states_segments.specs.Parts.{Walk, part_walk, walk_of}

-- what follows, and what follows each open block around, the innermost first
pub record Scene : Type 0 where
  pub next : Segment
  pub outer : List Segment

abbrev pub framed_by : Sort → Walk → Scene → Scene
framed_by sort.Rest w s = record { next = w.first s.next s.outer; outer = s.outer }
framed_by sort.Block w s = record { next = w.first s.next s.outer; outer = w.first s.next s.outer ∷ s.outer }
framed_by sort.End w s = record { next = Finish; outer = s.outer }
framed_by sort.Again w s = record { next = w.first Finish s.outer; outer = s.outer }

abbrev pub framed : Frame → Scene → Scene
framed f s = framed_by f.sort (walk_of f.rest.now) s

-- frames around, the innermost last
abbrev pub scene_in : Scene → List Frame → Scene
scene_in s [] = s
scene_in s (f ∷ fs) = scene_in (framed f s) fs

abbrev pub scene : List Frame → Scene
scene fs = scene_in (record { next = Finish; outer = [] }) fs

-- the segment from these parts on
abbrev pub from : List Part → Scene → Segment
from ps s = (walk_of ps).first s.next s.outer

-- the segment from a part on, before others
abbrev pub came : Part → List Part → Scene → Segment
came p ps s = (part_walk p (walk_of ps)).first s.next s.outer

abbrev pub stepped : Step → Scene → Segment
stepped (step.Comes p ps) s = came p.now ps.now s
stepped (step.On ps) s = from ps.now s
stepped step.Finish s = Finish

abbrev pub comes : Option (Bor Part × Bor (List Part)) → Scene → Segment
comes None s = Finish
comes (Some p) s = came p.0.now p.1.now s

-- behind a test stand the parts that follow it
abbrev pub tested_scene : List Part → Scene → Scene
tested_scene ps s = record { next = from ps s; outer = s.outer }
