use Rattle.std.proofs.Common.{◌≡◌, ◌++◌, subst, sym, Some}
use Rattle.scc_tokens_lexer.specs.Scan.{piece_tokens}
use Rattle.scc_tokens_lexer.specs.Spelled.{spelled_all}
use Rattle.scc_tokens_lexer.proofs.Spelling.{all_more}
use Rattle.scc_tokens_lexer.proofs.lexer.put_piece.Goals as goal

pub returns-in_ok-push-clause-put : goal.returns-in_ok-push-clause-put
returns-in_ok-push-clause-put c = λ done d.
    subst (λ f. spelled_all c.token_of.new.names c.push.new.self ≡ Some (done ++ piece_tokens f c.args.text.now c.args.place)) (sym c.in-Some.is)
    (all_more c.args.names.now c.token_of.new.names c.in_ok-token.ensures.keeps c.args.tokens.now c.push.new.self done c.in_ok-token.token _ c.in_ok-push.ensures.ok c.in_ok-token.ensures.spelled d)
