use Rattle.std.proofs.Common.{◌≡◌, ◌++◌, List, map, flat_map, drop}
use Rattle.scc_core_spec.specs.Split.{Stood, stood_in}
use Rattle.scc_states_segments.specs.Frames.{scene}
use Rattle.scc_states_segments.specs.Behind.{behind_waits}
use Rattle.scc_states_segments.specs.Limits.{first_after}
use Rattle.scc_states_cut.specs.Cut.{segment_of}
use Rattle.scc_states_cut.proofs.cuts.+cuts.Given as goal

abbrev pub invariant-cuts-loop-k : goal.invariant-cuts-loop-k
invariant-cuts-loop-k l =
    (map (segment_of l.waits) l.out ++ behind_waits (drop l.k l.body) (scene l.around) ≡ map (segment_of l.waits) l.initial.out ++ behind_waits l.body (scene l.around))
    × ((more : List Stood) → first_after l.count (flat_map (stood_in 1) (behind_waits (drop l.k l.body) (scene l.around)) ++ more) ≡ first_after l.initial.count (flat_map (stood_in 1) (behind_waits l.body (scene l.around)) ++ more))
