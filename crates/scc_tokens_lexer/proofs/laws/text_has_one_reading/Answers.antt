use Rattle.std.proofs.Common.{length, subst, arith}
use Rattle.scc_tokens_lexer.specs.declared.piece.Line.TheVariants.{Start}
use Rattle.scc_tokens_lexer.proofs.ScanLaws.{ScanIs, scan_is, lexes_scanned, faults_scanned}
use Rattle.scc_tokens_lexer.proofs.laws.text_has_one_reading.Goals as goal

pub returns-clause-tokens : goal.returns-clause-tokens
returns-clause-tokens c = λ file text ts. (λ e. subst (ScanIs file Start 0 text) e (scan_is (length text) file Start 0 text (omega arith)), lexes_scanned file Start 0 text ts)

pub returns-clause-fault : goal.returns-clause-fault
returns-clause-fault c = λ file text code place. (λ e. subst (ScanIs file Start 0 text) e (scan_is (length text) file Start 0 text (omega arith)), faults_scanned file Start 0 text code place)
