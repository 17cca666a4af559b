use Rattle.std.proofs.Common.{◌∙◌}
use Rattle.scc_tokens.proofs.Numbered.{told_more}
use Rattle.scc_tokens.proofs.read.fetch.Goals as goal

pub returns-clause-told : goal.returns-clause-told
returns-clause-told g c = λ told.
    told_more _ _ c.args.sources.now c.push.new.self _ c.args.name.now c.in-Ok.bytes.items told c.in-Ok.ensures.content
    (c.in_ok-text_of.ensures ∙ c.as_bytes-2.ensures.value) (c.in_ok-text_of-2.ensures ∙ c.as_slice.ensures.value) c.in_ok-push.ensures.ok c.read.ensures.kept
