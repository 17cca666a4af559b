use Rattle.std.proofs.Common.{◌≡◌, replicate}
use Rattle.scc_svread_grammar.specs.Leaves.{text}
use Rattle.scc_svread_raw.proofs.stmt.blanks.Given as goal

abbrev pub invariant-loop-left : goal.invariant-loop-left
invariant-loop-left l = text (replicate l.left 32) l.rest ≡ text (replicate l.n 32) l.fn.ts

abbrev pub decreases-loop-left : goal.decreases-loop-left
decreases-loop-left l = l.left
