use Rattle.std.proofs.Common.{◌≡◌, ◌++◌}
use Rattle.scc_trace.specs.Text.{hex_text}
use Rattle.scc_trace.proofs.hex.hex_digits.Given as goal

abbrev pub invariant-loop-left : goal.invariant-loop-left
invariant-loop-left l = l.out ++ hex_text l.left l.value ≡ l.initial.out ++ hex_text l.initial.left l.value

abbrev pub decreases-loop-left : goal.decreases-loop-left
decreases-loop-left l = l.left
