use Rattle.std.proofs.Common.{◌≤◌, ℕ, Bool, drop, length}
use Rattle.scc_core_spec.specs.Segments.{Segment}
use Rattle.scc_core_spec.specs.Static.{Cells}
use Rattle.scc_states_kept.specs.Walks.{Counts, Meets, before_rest}
use Rattle.scc_states_kept.proofs.kept.+kept_segment.Given as goal

abbrev pub invariant-segment-loop-left : goal.invariant-segment-loop-left
invariant-segment-loop-left l = (l.left ≤ length l.list)
    × ((cs : Cells) (only : ℕ → Bool) (waits : Counts) (rest : Segment) → Meets only l.fn.own cs l.fn.live rest → Meets only l.fn.own cs l.live (before_rest waits (drop l.left l.list) rest))

abbrev pub decreases-segment-loop-left : goal.decreases-segment-loop-left
decreases-segment-loop-left l = l.left
