use Rattle.std.proofs.Common.{◌==◌, ap, sym, ◌∙◌}
use Rattle.scc_tokens_directives.specs.Expand.{is_hidden}
use Rattle.scc_tokens_directives.proofs.Expansion.{any_reverse}
use Rattle.scc_tokens_directives.proofs.frames.Frames.hide.Goals as goal

pub returns : goal.returns
returns c =
    c.any_named.ensures ∙ ap (is_hidden c.args.name.0) c.as_slice.ensures.value
    ∙ sym (any_reverse (λ f. c.args.name.0 == f.name) c.self.inside.open.items) ∙ ap (is_hidden c.args.name.0) c.self.view_is
