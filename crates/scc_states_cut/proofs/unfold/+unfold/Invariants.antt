use Rattle.std.proofs.Common.{◌≡◌, ◌+◌, ◌*◌, ◌++◌, List, map}
use Rattle.scc_core_spec.specs.Split.{Stood, stood_in}
use Rattle.scc_states_segments.specs.Frames.{from, scene}
use Rattle.scc_states_segments.specs.Limits.{first_after}
use Rattle.scc_states_cut.specs.Cut.{before, stmt_segment}
use Rattle.scc_states_cut.proofs.unfold.+unfold.Given as goal

abbrev pub invariant-unfolded-loop : goal.invariant-unfolded-loop
invariant-unfolded-loop l =
    (before (map (stmt_segment l.waits) l.out) (from l.here (scene l.around)) ≡ from l.fn.here (scene l.fn.around))
    × ((more : List Stood) → first_after l.count (stood_in l.depth (from l.here (scene l.around)) ++ more) ≡ first_after l.initial.count (stood_in l.depth (from l.fn.here (scene l.fn.around)) ++ more))

abbrev pub decreases-unfolded : goal.decreases-unfolded
decreases-unfolded l = 3 * l.levels + 2

abbrev pub decreases-last : goal.decreases-last
decreases-last l = 3 * l.levels + 1

abbrev pub decreases-tested : goal.decreases-tested
decreases-tested l = 3 * l.levels
