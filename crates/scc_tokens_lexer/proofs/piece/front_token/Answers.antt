use Rattle.std.proofs.Common.{sym, subst, take, ◌+◌, ◌∙◌, arith}
use Rattle.std.proofs.lemmas.List.{take_rest}
use Rattle.scc_tokens_lexer.specs.Named.{IsNamed}
use Rattle.scc_tokens_lexer.proofs.Ascii.{front_named}
use Rattle.scc_tokens_lexer.proofs.piece.front_token.Goals as goal

pub returns-then-is_letter-clause-named : goal.returns-then-is_letter-clause-named
returns-then-is_letter-clause-named c =
    subst (λ f. IsNamed f (take (c.word_len-n.result + 1) c.args.text.now)) (sym c.word_form.ensures)
    (front_named c.args.text.now _ c.word_len-n.result (omega arith) (take_rest c.args.text.now 1) (sym c.is_letter.ensures ∙ c.if-is_letter.true) c.word_len-n.ensures.value)
