use Rattle.std.proofs.Common.{◌-◌, ◌≤◌, length}
use Rattle.scc_svread_grammar.proofs.Escapes.{Escape}
use Rattle.scc_svread_expressions.proofs.lexical.keyword_len.Given as goal

abbrev pub invariant-loop-n : goal.invariant-loop-n
invariant-loop-n l = (l.n ≤ length l.ts) × Escape l.n l.ts

abbrev pub decreases-loop-n : goal.decreases-loop-n
decreases-loop-n l = length l.ts - l.n
