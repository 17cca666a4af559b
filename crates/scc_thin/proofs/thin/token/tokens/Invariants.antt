use Rattle.std.proofs.Common.{◌≡◌, drop}
use Rattle.scc_thin.specs.Gives.{each}
use Rattle.scc_thin.specs.Tokens.{token_of}
use Rattle.scc_thin.proofs.Each.{behind}
use Rattle.scc_thin.proofs.thin.token.tokens.Given as goal

abbrev pub invariant-loop-t : goal.invariant-loop-t
invariant-loop-t l = behind l.list (each (token_of l.names) (drop l.t-index l.tokens)) ≡ each (token_of l.names) l.tokens
