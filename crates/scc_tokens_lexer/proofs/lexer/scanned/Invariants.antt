use Rattle.std.proofs.Common.{length}
use Rattle.scc_tokens_lexer.proofs.Scanning.{Scans}
use Rattle.scc_tokens_lexer.proofs.lexer.scanned.Given as goal

abbrev pub invariant-pieces : goal.invariant-pieces
invariant-pieces l = Scans l.file l.text l.initial.names l.names l.tokens l.line l.rest

abbrev pub decreases-pieces : goal.decreases-pieces
decreases-pieces l = length l.rest
