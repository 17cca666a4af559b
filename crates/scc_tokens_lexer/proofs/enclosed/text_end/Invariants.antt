use Rattle.std.proofs.Common.{◌≡◌, ◌+◌, false, drop, option_map}
use Rattle.scc_tokens_lexer.specs.Enclosed.{text_end}
use Rattle.scc_tokens_lexer.proofs.enclosed.text_end.Given as goal

abbrev pub invariant-loop-i : goal.invariant-loop-i
invariant-loop-i l = option_map (λ n. n + l.i) (text_end l.quote l.kept (drop l.i l.bytes)) ≡ text_end l.quote false l.bytes
