use Rattle.std.proofs.Common.{ap, ◌∙◌}
use Rattle.scc_tokens_directives.specs.File.{first_unclosed}
use Rattle.scc_tokens.proofs.Numbered.{file_is}
use Rattle.scc_tokens_lexer.proofs.Scanning.{keeps_same}
use Rattle.scc_tokens.proofs.read.cut.Goals as goal

pub returns-clause-value : goal.returns-clause-value
returns-clause-value c =
    file_is _ _ c.args.words.now c.args.number c.args.bytes.now c.in-Ok.tokens _ c.if-bytes-ge-ASKED_BYTES.false c.in-Ok.ensures.value
    (c.first_unclosed-unclosed.ensures ∙ ap (first_unclosed c.args.words.now) c.as_slice.ensures.elements) (keeps_same _) c.has.ensures.differ
