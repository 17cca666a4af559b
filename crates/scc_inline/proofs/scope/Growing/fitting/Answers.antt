use Rattle.std.proofs.Common.{◌∙◌, ap}
use Rattle.scc_inline.specs.Headings.{without_body}
use Rattle.scc_inline.proofs.scope.Growing.fitting.Goals as goal

pub returns-clause-headings : goal.returns-clause-headings
returns-clause-headings c = λ h i. c.with_body.ensures ∙ ap without_body (c.in_ok-made.ensures h i)
