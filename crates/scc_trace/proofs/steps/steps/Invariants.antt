use Rattle.std.proofs.Common.{◌≡◌, length}
use Rattle.scc_trace.specs.Spans.{lines_in}
use Rattle.scc_trace.specs.Stimulus.{steps_of, widths_of}
use Rattle.scc_trace.proofs.Turns.{put_front}
use Rattle.scc_trace.proofs.steps.steps.Given as goal

abbrev pub invariant-loop-rest : goal.invariant-loop-rest
invariant-loop-rest l = put_front l.steps (steps_of l.file l.version (widths_of l.ports) (lines_in l.rest)) ≡ steps_of l.file l.version (widths_of l.ports) (lines_in l.initial.rest)

abbrev pub decreases-loop-rest : goal.decreases-loop-rest
decreases-loop-rest l = length l.rest.bytes.now
