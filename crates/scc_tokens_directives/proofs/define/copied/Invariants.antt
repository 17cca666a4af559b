use Rattle.std.proofs.Common.{◌≡◌, take}
use Rattle.scc_tokens_directives.proofs.define.copied.Given as goal

abbrev pub invariant-loop-t : goal.invariant-loop-t
invariant-loop-t l = l.copy ≡ take l.t-index l.tokens
