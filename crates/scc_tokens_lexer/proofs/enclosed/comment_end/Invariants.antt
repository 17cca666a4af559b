use Rattle.std.proofs.Common.{◌≡◌, ◌+◌, false, drop, option_map}
use Rattle.scc_tokens_lexer.specs.Enclosed.{comment_end}
use Rattle.scc_tokens_lexer.proofs.enclosed.comment_end.Given as goal

abbrev pub invariant-loop-i : goal.invariant-loop-i
invariant-loop-i l = option_map (λ n. n + l.i) (comment_end l.star (drop l.i l.bytes)) ≡ comment_end false l.bytes
