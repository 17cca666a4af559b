use Rattle.std.proofs.Common.{◌≡◌, length}
use Rattle.scc_core_spec.specs.Segments.{behind}
use Rattle.scc_states_segments.specs.Frames.{scene}
use Rattle.scc_states_segments.proofs.path.left.Given as goal

abbrev pub invariant-loop-frame : goal.invariant-loop-frame
invariant-loop-frame l = behind l.more (scene l.around).outer ≡ behind l.fn.n (scene l.initial.around).outer

abbrev pub decreases-loop-frame : goal.decreases-loop-frame
decreases-loop-frame l = length l.around
