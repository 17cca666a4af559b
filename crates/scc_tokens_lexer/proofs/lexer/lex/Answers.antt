use Rattle.scc_tokens_lexer.proofs.ScanLaws.{lex_tokens, lex_fault}
use Rattle.scc_tokens_lexer.proofs.lexer.lex.Goals as goal

pub returns-clause-tokens : goal.returns-clause-tokens
returns-clause-tokens c = lex_tokens _ _ _ _ c.scanned.ensures.value

pub returns-clause-fault : goal.returns-clause-fault
returns-clause-fault c = lex_fault _ _ _ _ c.scanned.ensures.value
