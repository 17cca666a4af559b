use Rattle.std.proofs.Common.{◌≡◌, ◌++◌, sym, subst, refl, Some}
use Rattle.scc_tokens_lexer.specs.Scan.{end_tokens}
use Rattle.scc_tokens_lexer.specs.Spelled.{spelled_all}
use Rattle.scc_tokens_lexer.proofs.Scanning.{keeps_same}
use Rattle.scc_tokens_lexer.proofs.Spelling.{all_more}
use Rattle.scc_tokens_lexer.proofs.lexer.put_end.Goals as goal

pub returns-in_ok-push-in-Directive : goal.returns-in_ok-push-in-Directive
returns-in_ok-push-in-Directive c = record {
  put = λ names done d. subst (λ l. spelled_all names c.push.new.self ≡ Some (done ++ end_tokens l c.args.place)) (sym c.in-Directive.is)
      (all_more names names (keeps_same names) c.args.tokens.now c.push.new.self done _ _ c.in_ok-push-in-Directive.ensures.ok refl d);
}
